-- Linear equations: row operations keep the solutions, and a system in echelon form has one solution, or two that differ. Assumes nothing.
--   dot_cong, dot_nil, dot_front               sums of products
--   dot_add, dot_swap
--   defect_cong, defect_const, defect_add      the value of an equation
--   add_solves                                 a multiple of a solved equation changes no value
--   steps_insert, insert_solves                a bare row takes an equation: still in echelon form, and it is solved
--   solve_row, solve_free, fill                back substitution
--   two, unique_solution                       two solutions with a bare row; just one with none
--   turn                                       the factor that makes an equation start with -1
use mathlib.Core.Path.{◌≡◌, refl, sym, ap, ap₂, ◌∙◌}
use mathlib.Core.Logic.{◌≢◌}
use mathlib.Core.Bool.{cond}
use Prim.Native.Nat.{ℕ, zero, suc, ◌+◌, ◌-◌, ◌≤◌, ◌<◌}
use native.Mathlib.Decide.{ℕ_discrete, dec_lt}
use native.Mathlib.Omega.{arith}
use lib.Dec.{eqb}
use borrow.Author.Tests.{eq-eqb, ne_eqb}
use Rattle.algebra.specs.Ring.{Ring, Field}
use Rattle.algebra.specs.Equations.{dot, defect, Solves, Steps}
use Rattle.algebra.proofs.Ring.{nil_add, add_left_comm, add_mul, unit_mul, add_cancel, mul_nil, nil_mul, sub_is, sub_mul, add_interchange}

module _ (R : Ring) where
  open R use {El, dec, nil as 𝟘, unit as 𝟙, add as ◌⊕◌, sub as ◌⊖◌, mul as ◌⊗◌, add_comm, add_assoc, add_nil, mul_comm, mul_assoc, mul_add}

  infixl 60 ◌⊕◌
  infixl 60 ◌⊖◌
  infixl 70 ◌⊗◌
  -- minus one times a is minus a
  pub minus_one : (a : El) → (𝟘 ⊖ 𝟙) ⊗ a ⊕ a ≡ 𝟘
  minus_one a = ap (λ n. (𝟘 ⊖ 𝟙) ⊗ a ⊕ n) (sym (unit_mul R a)) ∙ sub_mul R 𝟘 𝟙 a ∙ nil_mul R a

  minus_none : (a : El) → (𝟘 ⊖ 𝟙) ⊗ a ≡ 𝟘 → a ≡ 𝟘
  minus_none a e = sym (nil_add R a) ∙ ap (λ n. n ⊕ a) (sym e) ∙ minus_one a

  -- sums of products
  pub dot_cong : (l : ℕ) (a b y z : ℕ → El) → ((m : ℕ) → m < l → a m ⊗ y m ≡ b m ⊗ z m) → dot R l a y ≡ dot R l b z
  unfolding dot
  dot_cong zero a b y z h = refl
  dot_cong (suc l) a b y z h = ap₂ ◌⊕◌ (dot_cong l a b y z (λ m n. h m (omega arith))) (h l (omega arith))

  pub dot_nil : (l : ℕ) (a y : ℕ → El) → ((m : ℕ) → m < l → a m ≡ 𝟘) → dot R l a y ≡ 𝟘
  unfolding dot
  dot_nil zero a y h = refl
  dot_nil (suc l) a y h =
      ap₂ ◌⊕◌ (dot_nil l a y (λ m n. h m (omega arith))) (ap (λ n. n ⊗ y l) (h l (omega arith)) ∙ nil_mul R (y l)) ∙ add_nil 𝟘

  pub dot_front : (l : ℕ) (a y : ℕ → El) → dot R (suc l) a y ≡ a 0 ⊗ y 0 ⊕ dot R l (λ m. a (suc m)) (λ m. y (suc m))
  unfolding dot
  dot_front zero a y = add_comm 𝟘 (a 0 ⊗ y 0)
  dot_front (suc l) a y =
      ap (λ n. n ⊕ a (suc l) ⊗ y (suc l)) (dot_front l a y)
      ∙ add_assoc (a 0 ⊗ y 0) (dot R l (λ m. a (suc m)) (λ m. y (suc m))) (a (suc l) ⊗ y (suc l))

  regroup : (d e t c u v : El) → (d ⊕ c ⊗ e) ⊕ (t ⊕ c ⊗ u) ⊗ v ≡ (d ⊕ t ⊗ v) ⊕ c ⊗ (e ⊕ u ⊗ v)
  regroup d e t c u v = simp (add_mul R, mul_add, mul_assoc, add_assoc, add_left_comm R)

  pub dot_add : (l : ℕ) (c : El) (a e b y : ℕ → El) → ((m : ℕ) → m < l → b m ≡ a m ⊕ c ⊗ e m) → dot R l b y ≡ dot R l a y ⊕ c ⊗ dot R l e y
  unfolding dot
  dot_add zero c a e b y h = sym (ap (λ n. 𝟘 ⊕ n) (mul_nil R c) ∙ add_nil 𝟘)
  dot_add (suc l) c a e b y h =
      ap₂ ◌⊕◌ (dot_add l c a e b y (λ m n. h m (omega arith))) (ap (λ n. n ⊗ y l) (h l (omega arith)))
      ∙ regroup (dot R l a y) (dot R l e y) (a l) c (e l) (y l)

  -- two points whose terms differ at j alone
  pub dot_swap : (l j : ℕ) (a y z : ℕ → El) → j < l → ((m : ℕ) → m < l → m ≢ j → a m ⊗ y m ≡ a m ⊗ z m)
      → dot R l a y ⊕ a j ⊗ z j ≡ dot R l a z ⊕ a j ⊗ y j
  unfolding dot
  dot_swap zero j a y z hj h = absurd (omega arith)
  dot_swap (suc l) j a y z hj h = go (ℕ_discrete l j) (dot_swap l j a y z)
    where
      go : Dec (l ≡ j) → (j < l → ((m : ℕ) → m < l → m ≢ j → a m ⊗ y m ≡ a m ⊗ z m) → dot R l a y ⊕ a j ⊗ z j ≡ dot R l a z ⊕ a j ⊗ y j)
          → (dot R l a y ⊕ a l ⊗ y l) ⊕ a j ⊗ z j ≡ (dot R l a z ⊕ a l ⊗ z l) ⊕ a j ⊗ y j
      go (yes p) ih =
          let i : dot R l a y ≡ dot R l a z = dot_cong l a a y z (λ m k. h m (omega arith) (omega arith)) in
          let A = dot R l a y in
          cc (add_assoc A (a l ⊗ y l) (a l ⊗ z l), add_assoc A (a l ⊗ z l) (a l ⊗ y l), add_comm (a l ⊗ y l) (a l ⊗ z l))
      go (no n) ih =
          let i : dot R l a y ⊕ a j ⊗ z j ≡ dot R l a z ⊕ a j ⊗ y j = ih (omega arith) (λ m k. h m (omega arith)) in
          let t : a l ⊗ y l ≡ a l ⊗ z l = h l (omega arith) n in
          let A = dot R l a y in
          let B = dot R l a z in
          let T = a l ⊗ y l in
          cc (
            add_assoc A T (a j ⊗ z j),
            add_comm T (a j ⊗ z j),
            add_assoc A (a j ⊗ z j) T,
            add_assoc B T (a j ⊗ y j),
            add_comm T (a j ⊗ y j),
            add_assoc B (a j ⊗ y j) T,
          )

  module _ (k : ℕ) where
    -- the value of an equation
    pub defect_cong : (a b y : ℕ → El) → ((m : ℕ) → m ≤ k → a m ≡ b m) → defect R k a y ≡ defect R k b y
    unfolding defect
    defect_cong a b y h =
        ap₂ ◌⊕◌ (dot_cong k a b y y (λ m n. ap (λ x. x ⊗ y m) (h m (omega arith)))) (h k (omega arith))

    pub defect_at : (a y z : ℕ → El) → ((m : ℕ) → m < k → y m ≡ z m) → defect R k a y ≡ defect R k a z
    unfolding defect
    defect_at a y z h = ap (λ n. n ⊕ a k) (dot_cong k a a y z (λ m n. ap (λ x. a m ⊗ x) (h m n)))

    -- no unknown left
    pub defect_const : (a y : ℕ → El) → ((m : ℕ) → m < k → a m ≡ 𝟘) → defect R k a y ≡ a k
    unfolding defect
    defect_const a y h = ap (λ n. n ⊕ a k) (dot_nil k a y h) ∙ nil_add R (a k)

    pub defect_add : (c : El) (a e b y : ℕ → El) → ((m : ℕ) → m ≤ k → b m ≡ a m ⊕ c ⊗ e m)
        → defect R k b y ≡ defect R k a y ⊕ c ⊗ defect R k e y
    unfolding defect
    defect_add c a e b y h =
        ap₂ ◌⊕◌ (dot_add k c a e b y (λ m n. h m (omega arith))) (h k (omega arith))
        ∙ add_interchange R (dot R k a y) (c ⊗ dot R k e y) (a k) (c ⊗ e k)
        ∙ ap (λ n. (dot R k a y ⊕ a k) ⊕ n) (sym (mul_add c (dot R k e y) (e k)))

    -- a multiple of a solved equation changes no value, so the solutions stay, both ways
    pub add_solves : (c : El) (a e b y : ℕ → El) → ((m : ℕ) → m ≤ k → b m ≡ a m ⊕ c ⊗ e m) → defect R k e y ≡ 𝟘
        → defect R k b y ≡ defect R k a y
    add_solves c a e b y h s =
        defect_add c a e b y h ∙ ap (λ n. defect R k a y ⊕ c ⊗ n) s ∙ ap (λ n. defect R k a y ⊕ n) (mul_nil R c) ∙ add_nil (defect R k a y)

    defect_swap : (j : ℕ) (a y z : ℕ → El) → j < k → ((m : ℕ) → m < k → m ≢ j → a m ⊗ y m ≡ a m ⊗ z m)
        → defect R k a y ⊕ a j ⊗ z j ≡ defect R k a z ⊕ a j ⊗ y j
    unfolding defect
    defect_swap j a y z hj h =
        let A = dot R k a y in
        let B = dot R k a z in
        cc (
          dot_swap k j a y z hj h,
          add_assoc A (a k) (a j ⊗ z j),
          add_comm (a k) (a j ⊗ z j),
          add_assoc A (a j ⊗ z j) (a k),
          add_assoc B (a k) (a j ⊗ y j),
          add_comm (a k) (a j ⊗ y j),
          add_assoc B (a j ⊗ y j) (a k),
        )

    pub bare_solved : (U : ℕ → ℕ → El) → Steps R k U → (i : ℕ) → i < k → U i i ≡ 𝟘 → (y : ℕ → El) → defect R k (U i) y ≡ 𝟘
    bare_solved U E i h e y =
        defect_const (U i) y (λ m n. E.bare i m h e (omega arith)) ∙ E.bare i k h e (omega arith)

    -- a bare row j that takes c times an equation e, where c makes e start with -1
    module _ (U W : ℕ → ℕ → El) (E : Steps R k U) (j : ℕ) (hj : j < k) (c : El) (e : ℕ → El)
        (zeros : (m : ℕ) → m < j → e m ≡ 𝟘) (turned : c ⊗ e j ≡ 𝟘 ⊖ 𝟙)
        (others : (i m : ℕ) → i < k → i ≢ j → m ≤ k → W i m ≡ U i m) (put : (m : ℕ) → m ≤ k → W j m ≡ c ⊗ e m) where
      pub steps_insert : Steps R k W
      steps_insert =
          record {
            low = λ i m p l. low i m p l (ℕ_discrete i j);
            head = λ i p n. head i p n (ℕ_discrete i j);
            bare = λ i m p z l. bare i m p z l (ℕ_discrete i j);
          }
        where
          low : (i m : ℕ) → i < k → m < i → Dec (i ≡ j) → W i m ≡ 𝟘
          low i m p l (yes w) = rw w (put m (omega arith) ∙ ap (λ n. c ⊗ n) (zeros m (omega arith)) ∙ mul_nil R c)
          low i m p l (no w) = others i m p w (omega arith) ∙ E.low i m p l

          head : (i : ℕ) → i < k → W i i ≢ 𝟘 → Dec (i ≡ j) → W i i ≡ 𝟘 ⊖ 𝟙
          head i p n (yes w) = rw w (put j (omega arith) ∙ turned)
          head i p n (no w) = others i i p w (omega arith) ∙ E.head i p (λ z. n (others i i p w (omega arith) ∙ z))

          bare : (i m : ℕ) → i < k → W i i ≡ 𝟘 → m ≤ k → Dec (i ≡ j) → W i m ≡ 𝟘
          bare i m p z l (yes w) =
              minus_none (W i m) (ap (λ n. n ⊗ W i m) (sym turned ∙ sym (put j (omega arith)) ∙ (rw w at z)) ∙ nil_mul R (W i m))
          bare i m p z l (no w) = others i m p w l ∙ E.bare i m p (sym (others i i p w (omega arith)) ∙ z) l

      pub insert_value : (y : ℕ → El) → defect R k (W j) y ≡ c ⊗ defect R k e y
      insert_value y =
          defect_add c (λ _. 𝟘) e (W j) y (λ m l. put m l ∙ sym (nil_add R (c ⊗ e m)))
          ∙ ap (λ n. n ⊕ c ⊗ defect R k e y) (defect_const (λ _. 𝟘) y (λ m n. refl)) ∙ nil_add R (c ⊗ defect R k e y)

      pub insert_solves : (y : ℕ → El) → defect R k (W j) y ≡ 𝟘 → defect R k e y ≡ 𝟘
      insert_solves y s =
          let r = defect R k e y in
          let z : c ⊗ r ≡ 𝟘 = sym (insert_value y) ∙ s in
          minus_none r (ap (λ n. n ⊗ r) (sym turned ∙ mul_comm c (e j)) ∙ mul_assoc (e j) c r ∙ ap (λ n. e j ⊗ n) z ∙ mul_nil R (e j))

    -- a function changed at j
    pub update : (ℕ → El) → (j : ℕ) → El → ℕ → El
    update y j v m = cond (eqb m j) v (y m)

    pub update_same : (y : ℕ → El) (j : ℕ) (v : El) → update y j v j ≡ v
    unfolding update
    update_same y j v = rw (eq-eqb j j refl)

    pub update_other : (y : ℕ → El) (j : ℕ) (v : El) (m : ℕ) → m ≢ j → update y j v m ≡ y m
    unfolding update
    update_other y j v m n = rw (ne_eqb m j n)

    abbrev pub SolvesFrom : (U : ℕ → ℕ → El) → (b : ℕ) → (y : ℕ → El) → Type 0
    SolvesFrom U b y = (i : ℕ) → b ≤ i → i < k → defect R k (U i) y ≡ 𝟘

    pub record Completed (U : ℕ → ℕ → El) (b t : ℕ) (y : ℕ → El) : Type 0 where
      pub z : ℕ → El
      pub clear : (m : ℕ) → m < b → z m ≡ 𝟘
      pub solves : SolvesFrom U b z
      pub same : (m : ℕ) → t ≤ m → z m ≡ y m

    pub record Two (U : ℕ → ℕ → El) (j : ℕ) : Type 0 where
      pub y : ℕ → El
      pub z : ℕ → El
      pub y_solves : Solves R k U y
      pub z_solves : Solves R k U z
      pub differ : y j ≢ z j

    -- back substitution
    module _ (U : ℕ → ℕ → El) (E : Steps R k U) where
      keep : (i j : ℕ) (y z : ℕ → El) → i < k → j < i → ((m : ℕ) → m ≢ j → z m ≡ y m) → defect R k (U i) z ≡ defect R k (U i) y
      keep i j y z hi hj h =
          let e = E.low i j hi hj in
          let s = defect_swap j (U i) z y (omega arith) (λ m p n. ap (λ x. U i m ⊗ x) (h m n)) in
          cc (e, s, nil_mul R (y j), nil_mul R (z j), add_nil (defect R k (U i) z), add_nil (defect R k (U i) y))

      -- row j, solved by its own unknown
      pub solve_row : (j : ℕ) (y z : ℕ → El) → j < k → y j ≡ 𝟘 → ((m : ℕ) → m ≢ j → z m ≡ y m) → z j ≡ defect R k (U j) y
          → SolvesFrom U (suc j) y → SolvesFrom U j z
      solve_row j y z hj e h v s i hl hi = go (ℕ_discrete i j) (dec (U j j) 𝟘)
        where
          go : Dec (i ≡ j) → Dec (U j j ≡ 𝟘) → defect R k (U i) z ≡ 𝟘
          go (yes p) (yes n) = rw p (bare_solved U E j hj n z)
          go (yes p) (no n) =
              let w = defect_swap j (U j) y z hj (λ m l d. ap (λ x. U j m ⊗ x) (sym (h m d))) in
              let r = defect R k (U j) y in
              rw p (cc (
                w,
                E.head j hj n,
                minus_one r,
                add_comm ((𝟘 ⊖ 𝟙) ⊗ r) r,
                mul_nil R (𝟘 ⊖ 𝟙),
                add_nil (defect R k (U j) z),
              ))
          go (no p) _ = keep i j y z hi (omega arith) h ∙ s i (omega arith) hi

      -- a free unknown
      pub solve_free : (j : ℕ) (y z : ℕ → El) → j < k → U j j ≡ 𝟘 → ((m : ℕ) → m ≢ j → z m ≡ y m) → SolvesFrom U (suc j) y → SolvesFrom U j z
      solve_free j y z hj n h s i hl hi = go (ℕ_discrete i j)
        where
          go : Dec (i ≡ j) → defect R k (U i) z ≡ 𝟘
          go (yes p) = rw p (bare_solved U E j hj n z)
          go (no p) = keep i j y z hi (omega arith) h ∙ s i (omega arith) hi

      pub fill : (d b : ℕ) (y : ℕ → El) → d + b ≤ k → ((m : ℕ) → m < d + b → y m ≡ 𝟘) → SolvesFrom U (d + b) y → Completed U b (d + b) y
      fill zero b y h hz s =
          record { z = y; clear = λ m n. hz m (omega arith); solves = λ i p n. s i (omega arith) n; same = λ m n. refl }
      fill (suc d) b y h hz s =
          let j = d + b in
          let v = defect R k (U j) y in
          let r : Completed U b (d + b) (update y j v)
          = fill d b (update y j v) (omega arith) (λ m n. update_other y j v m (omega arith) ∙ hz m (omega arith))
          (solve_row j y (update y j v) (omega arith) (hz j (omega arith)) (update_other y j v) (update_same y j v) (λ i p n. s i (omega arith) n)) in
          record { z = r.z; clear = r.clear; solves = r.solves; same = λ m n. r.same m (omega arith) ∙ update_other y j v m (omega arith) }

      -- with a bare row, two
      pub two : 𝟙 ≢ 𝟘 → (j : ℕ) → j < k → U j j ≡ 𝟘 → Two U j
      two d j hj n =
          let t = k - suc j in
          let o : Completed U (suc j) (t + suc j) (λ _. 𝟘)
          = fill t (suc j) (λ _. 𝟘) (omega arith) (λ _ _. refl) (λ i p h. absurd (omega arith)) in
          let y = o.z in
          let w = update y j 𝟙 in
          let a : Completed U 0 (j + 0) y
          = fill j 0 y (omega arith) (λ m h. o.clear m (omega arith))
          (λ i p h. solve_free j y y hj n (λ _ _. refl) o.solves i (omega arith) h) in
          let b : Completed U 0 (j + 0) w
          = fill j 0 w (omega arith) (λ m h. update_other y j 𝟙 m (omega arith) ∙ o.clear m (omega arith))
          (λ i p h. solve_free j y w hj n (update_other y j 𝟙) o.solves i (omega arith) h) in
          let e0 : a.z j ≡ 𝟘 = a.same j (omega arith) ∙ o.clear j (omega arith) in
          let e1 : b.z j ≡ 𝟙 = b.same j (omega arith) ∙ update_same y j 𝟙 in
          record {
            y = a.z;
            z = b.z;
            y_solves = λ i h. a.solves i (omega arith) h;
            z_solves = λ i h. b.solves i (omega arith) h;
            differ = λ e. d (sym e1 ∙ sym e ∙ e0);
          }

      -- with none, just one: unknowns from the last to the first
      only : (y z : ℕ → El) → ((i : ℕ) → i < k → U i i ≢ 𝟘) → Solves R k U y → Solves R k U z → (d m : ℕ) → m < k → k ≤ d + m → y m ≡ z m
      only y z full sy sz zero m h g = absurd (omega arith)
      only y z full sy sz (suc d) m h g =
          let later : (p : ℕ) → p < k → m < p → y p ≡ z p = λ p l n. only y z full sy sz d p l (omega arith) in
          go (terms later)
        where
          terms : ((p : ℕ) → p < k → m < p → y p ≡ z p) → (p : ℕ) → p < k → p ≢ m → U m p ⊗ y p ≡ U m p ⊗ z p
          terms later p l n = case (dec_lt p m)
            where
              case : Dec (p < m) → U m p ⊗ y p ≡ U m p ⊗ z p
              case (yes b) = cc (E.low m p h b, nil_mul R (y p), nil_mul R (z p))
              case (no b) = ap (λ x. U m p ⊗ x) (later p l (omega arith))

          go : ((p : ℕ) → p < k → p ≢ m → U m p ⊗ y p ≡ U m p ⊗ z p) → y m ≡ z m
          go t =
              let w = defect_swap m (U m) y z h t in
              let v = sy m h in
              let u = sz m h in
              let f : (𝟘 ⊖ 𝟙) ⊗ z m ≡ (𝟘 ⊖ 𝟙) ⊗ y m
              = cc (w, v, u, E.head m h (full m h), nil_add R (U m m ⊗ z m), nil_add R (U m m ⊗ y m)) in
              add_cancel R (y m) (z m) ((𝟘 ⊖ 𝟙) ⊗ y m)
              (add_comm (y m) ((𝟘 ⊖ 𝟙) ⊗ y m) ∙ minus_one (y m) ∙ sym (minus_one (z m)) ∙ add_comm ((𝟘 ⊖ 𝟙) ⊗ z m) (z m) ∙ ap (λ n. z m ⊕ n) f)

      pub unique_solution : ((i : ℕ) → i < k → U i i ≢ 𝟘) → (y z : ℕ → El) → Solves R k U y → Solves R k U z → (m : ℕ) → m < k → y m ≡ z m
      unique_solution full y z sy sz m h = only y z full sy sz k m h (omega arith)

module _ (F : Field) where
  open F use {ring, inv, mul_inv}
  open F.ring use {El, nil as 𝟘, unit as 𝟙, add as ◌⊕◌, sub as ◌⊖◌, mul as ◌⊗◌, mul_comm}

  infixl 60 ◌⊕◌
  infixl 60 ◌⊖◌
  infixl 70 ◌⊗◌
  pub turn : (h : El) → h ≢ 𝟘 → (𝟘 ⊖ inv h) ⊗ h ≡ 𝟘 ⊖ 𝟙
  turn h n =
      sym (sub_is ring 𝟘 𝟙 ((𝟘 ⊖ inv h) ⊗ h)
      (ap (λ x. (𝟘 ⊖ inv h) ⊗ h ⊕ x) (sym (mul_comm (inv h) h ∙ mul_inv h n)) ∙ sub_mul ring 𝟘 (inv h) h ∙ nil_mul ring h))
