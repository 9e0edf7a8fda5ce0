-- All statements of specs/Demand.antt are proved. Assumes nothing.
--   promises    each of them
use mathlib.Core.Path.{◌≡◌, refl, sym, ap, subst, ◌∙◌}
use mathlib.Core.Bool.{true, cond}
use mathlib.Core.List.{List}
use Prim.Native.Nat.{ℕ, ◌+◌, ◌-◌, ◌%◌, ◌≤◌}
use native.Mathlib.Decide.{ℕ_discrete}
use native.Mathlib.Omega.{arith}
use borrow.Author.Tests.{eq-eqb, ne_eqb}
use lib.Dec.{eqb}
use Rattle.algebra.specs.Sequence.{at}
use Rattle.code.specs.declared.Code.{Code}
use Rattle.code.specs.Family.{single, code_refusal}
use Rattle.code.specs.Shape.{ceiling, size, missing, mates}
use Rattle.code.specs.Codeword.{encoded, guarantee}
use Rattle.code.specs.Decoding.{agrees}
use Rattle.code.specs.Erasure.{lost_number}
use Rattle.code.specs.Repair.{repaired, symbols_of}
use Rattle.code.specs.Promise.{Accepted, CodeNumbers, FarApart, RepairsBack}
use Rattle.code.proofs.Accepted.{plain_of, mending_of}
use Rattle.code.proofs.Mates.{mates_full, mates_last}
use Rattle.code.proofs.Shared.{code_numbers}
use Rattle.code.proofs.Distance.{far_apart}
use Rattle.code.proofs.Repairing.{repairs_back}
use Rattle.repair.specs.Mates.{RepairSays}
use Rattle.repair.specs.Promise.{RepairRestores}
use Rattle.repair.proofs.Promises.{repair_restores}
use Rattle.decode.specs.Decode.{DecodeSays}
use Rattle.decode.specs.Promise.{DecodesReturned}
use Rattle.decode.proofs.Promises.{promises as decode_promises}
use Rattle.demand.specs.Demand.{long, Within, SharesAtMost, GroupTells, GroupHas, DecodeReturns, RepairReturns, Promises}
use Rattle.encode.proofs.Refusal.{encode_fills}

-- k' is k + missing
long_is : (c : Code) → Accepted c → long c ≡ c.k + missing (single c)
unfolding long CodeNumbers
long_is c e = go (ℕ_discrete (c.n % (c.r + 1)) 0)
  where
    go : Dec (c.n % (c.r + 1) ≡ 0) → cond (eqb (c.n % (c.r + 1)) 0) c.k (c.k + (c.r + 1 - c.n % (c.r + 1))) ≡ c.k + missing (single c)
    go (yes z) = rw (eq-eqb (c.n % (c.r + 1)) 0 z) (omega (arith, (code_numbers c e).none z))
    go (no z) = rw (ne_eqb (c.n % (c.r + 1)) 0 z) (omega (arith, (code_numbers c e).some z))

blocks_are : (c : Code) → Accepted c → ceiling (long c) c.r ≡ ceiling (c.k + missing (single c)) c.r
blocks_are c e = ap (λ n. ceiling n c.r) (long_is c e)

-- losses within the paper's bound are within the guarantee
pub within_sure : (c : Code) (ks : List ℕ) → Accepted c → Within c ks → lost_number (single c) ks ≤ guarantee (single c)
unfolding CodeNumbers
within_sure c ks e h = omega (arith, (code_numbers c e).sure, blocks_are c e)

shares_at_most : SharesAtMost
unfolding SharesAtMost FarApart CodeNumbers
shares_at_most c xs ys e m n d = omega (arith, far_apart (single c) xs ys (plain_of c e).family m n d, (code_numbers c e).most, blocks_are c e)

group_tells : GroupTells
unfolding GroupTells RepairsBack
group_tells c xs ys p e m n h t =
    let s = single c in
    let F = (plain_of c e).family in
    sym (repairs_back s xs p F refl m h) ∙ ap (repaired s p) t ∙ repairs_back s ys p F refl n h

group_has : GroupHas
unfolding GroupHas size
group_has c p e h =
    let s = single c in
    let P = (plain_of c e).family.placed in
    record { whole = λ l. omega (arith, mates_full s P p h l); short = λ l. mates_last s P p h l }

decode_returns : DecodeReturns
unfolding DecodeReturns DecodesReturned
decode_returns c ms ks ws x y a cs b z w v e m la lw lk bk lb room says agree few answer =
    let s = single c in
    let E = encode_fills (code_refusal c) s ms x a cs e m la says in
    let g : agrees s (encoded s ms) ws ks ≡ true = rw E.1 at agree in
    let d : DecodeSays 0 s ws ks y b z w v = subst (λ n. DecodeSays n s ws ks y b z w v) e answer in
    let o = decode_promises.decodes_returned s ms ws ks y b z w v (plain_of c e).family m lw lk bk g (within_sure c ks e few) lb room d in
    (E.0, o.0, o.1)

repair_returns : RepairReturns
unfolding RepairReturns RepairRestores
repair_returns c ms p x y a cs e m la h says answer =
    let s = single c in
    let E = encode_fills (code_refusal c) s ms x a cs e m la says in
    let d : RepairSays 0 s p (symbols_of (encoded s ms) (mates s p)) y
    = rw E.1 at (subst (λ n. RepairSays n s p (symbols_of cs (mates s p)) y) e answer) in
    let r = repair_restores s ms p y (plain_of c e).family (mending_of c e) m h d in
    (E.0, r.0, r.1 ∙ ap (λ w. at w p) (sym E.1))

pub promises : Promises
promises =
    record { shares_at_most = shares_at_most; group_tells = group_tells; group_has = group_has; decode_returns = decode_returns; repair_returns = repair_returns }
