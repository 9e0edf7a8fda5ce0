-- What comes back of a message that was encoded and then lost in part. Assumes nothing.
--   sound                                 what holds where encoding and losing does not refuse
--   comes_refused, comes_decoded          encode, lose and decode
--   restored_refused, restored_given      encode, lose and repair
use mathlib.Core.Path.{◌≡◌, refl, sym, ap, subst, ◌∙◌}
use mathlib.Core.Logic.{◌≢◌}
use mathlib.Core.Bool.{true, cond, ◌&&◌}
use mathlib.Core.List.{List}
use Prim.Native.Nat.{ℕ, zero, suc, ◌<◌}
use borrow.Author.Tests.{eq-eqb, lt-ltb}
use lib.Dec.{eqb, ltb}
use lib.ListN.{length}
use Rattle.algebra.specs.Sequence.{Each}
use Rattle.code.specs.declared.Code.{Code}
use Rattle.code.specs.declared.Answer.{Answer}
use Rattle.code.specs.Question.{ask, or_ask}
use Rattle.code.specs.Family.{single, code_refusal}
use Rattle.code.specs.Shape.{mates}
use Rattle.code.specs.Codeword.{encoded}
use Rattle.code.specs.Decoding.{agrees}
use Rattle.code.specs.Repair.{symbols_of}
use Rattle.code.proofs.Questions.{ask_yes, or_ask_on, or_ask_passed}
use Rattle.code.proofs.Accepted.{plain_of, mending_of}
use Rattle.code.proofs.Codewords.{length_encoded}
use Rattle.code.proofs.Mates.{mates_below}
use Rattle.encode.specs.Encode.{encode_refusal}
use Rattle.repair.specs.Mates.{RepairSays}
use Rattle.repair.specs.Promise.{RepairRestores}
use Rattle.repair.proofs.Promises.{repair_restores}
use Rattle.decode.specs.Decode.{DecodeSays}
use Rattle.decode.specs.Promise.{DecodesReturned}
use Rattle.decode.proofs.Promises.{promises as decode_promises}
use Rattle.promise.specs.RoundTrip.{after_loss, send_refusal, Handed, DecodesAs, ComesBack, RepairsAs, Restored}
use Rattle.promise.specs.Step.{Left}
use Rattle.encode.proofs.Refusal.{encode_passes}
use Rattle.promise.proofs.Losing.{length_loss, loss_agrees, loss_mates}
use Rattle.demand.proofs.Promises.{within_sure}

module _ (c : Code) (ms ks os : List ℕ) where
  send_passes : (l w : ℕ) → Handed c ms ks os l w → send_refusal c ms ks os l w ≡ 0
  unfolding send_refusal
  send_passes l w H =
      let right : (eqb (length ks) c.n && eqb (length os) c.n) && eqb w c.n ≡ true
      = rw (eq-eqb (length ks) c.n H.marks_size, eq-eqb (length os) c.n H.other_size, eq-eqb w c.n H.word_size) refl in
      sym (or_ask_on _ _ 0 (encode_passes (code_refusal c) (single c) ms l H.accepted H.message_fits H.codeword_size) (ask_yes 5 right refl))

  module _ (cs cs' ws ws' : List ℕ) where
    -- with no refusal the word is what a loss leaves
    word_is : (x : ℕ) → Left c ms ks os x cs cs' ws ws' → x ≡ 0 → ws' ≡ after_loss (encoded (single c) ms) ks os
    word_is x L e =
        L.sent.word
        ∙ ap (λ t. cond t (after_loss (encoded (single c) ms) ks os) ws) (eq-eqb (send_refusal c ms ks os (length cs) (length ws)) 0 (sym L.answer ∙ e))

    -- with no refusal the code is accepted, and the word has its length
    pub sound : (x : ℕ) → Left c ms ks os x cs cs' ws ws' → x ≡ 0 → (code_refusal c ≡ 0) × (length ws' ≡ c.n)
    unfolding send_refusal encode_refusal
    sound x L e =
        let o = or_ask_passed (encode_refusal (code_refusal c) (single c) ms (length cs)) _ (sym L.answer ∙ e) in
        ((or_ask_passed (code_refusal c) _ o.0).0, ap length (word_is x L e) ∙ length_loss (encoded (single c) ms) ks os ∙ length_encoded (single c) ms)

    pub comes_refused : (x : ℕ) (b w : List ℕ) → Left c ms ks os x cs cs' ws ws' → x ≢ 0 → ComesBack c ms ks os x cs cs' ws ws' b b w w
    unfolding DecodesAs
    comes_refused x b w L n =
        record {
          sent = L.sent;
          answer = go (send_refusal c ms ks os (length cs) (length ws)) L.answer;
          returns = λ H lb lw few. absurd (n (L.answer ∙ send_passes (length cs) (length ws) H));
        }
      where
        go : (y : ℕ) → x ≡ y → DecodesAs y c ws' ks x b b w w
        go zero e = absurd (n e)
        go (suc y) e = (e, refl, refl)

    pub comes_decoded : (x y : ℕ) (b b' w w' : List ℕ) → Left c ms ks os x cs cs' ws ws' → x ≡ 0
        → DecodeSays (code_refusal c) (single c) ws' ks y b b' w w' → ComesBack c ms ks os y cs cs' ws ws' b b' w w'
    unfolding DecodesAs DecodesReturned
    comes_decoded x y b b' w w' L e D =
        record {
          sent = L.sent;
          answer = subst (λ n. DecodesAs n c ws' ks y b b' w w') (sym e ∙ L.answer) D;
          returns = λ H lb lw few.
              let s = single c in
              let i = word_is x L e in
              let l : length ws' ≡ c.n = ap length i ∙ length_loss (encoded s ms) ks os ∙ length_encoded s ms in
              let g : agrees s (encoded s ms) ws' ks ≡ true = rw i (loss_agrees (encoded s ms) ks os s (length_encoded s ms)) in
              decode_promises.decodes_returned s ms ws' ks y b b' w w' (plain_of c H.accepted).family H.message_fits l H.marks_size
              H.marks_fit g (within_sure c ks H.accepted few) lb lw (subst (λ n. DecodeSays n s ws' ks y b b' w w') H.accepted D);
        }

    module _ (p : ℕ) where
      pub restored_refused : (x : ℕ) (y : Answer) → Left c ms ks os x cs cs' ws ws' → y.refusal ≡ or_ask x (ask (ltb p c.n) 7 0) → y.refusal ≢ 0
          → y.value ≡ 0 → Restored c ms ks os p y cs cs' ws ws'
      unfolding RepairsAs
      restored_refused x y L r n v =
          let is = r ∙ ap (λ a. or_ask a (ask (ltb p c.n) 7 0)) L.answer in
          record {
            sent = L.sent;
            answer = go (or_ask (send_refusal c ms ks os (length cs) (length ws)) (ask (ltb p c.n) 7 0)) is;
            restores = λ H h k.
                absurd (n (is ∙ sym (or_ask_on _ _ 0 (send_passes (length cs) (length ws) H) (ask_yes 7 (lt-ltb p c.n h) refl))));
          }
        where
          go : (z : ℕ) → y.refusal ≡ z → RepairsAs z c ws' p y
          go zero e = absurd (n e)
          go (suc z) e = (e, v)

      pub restored_given : (x : ℕ) (y : Answer) → Left c ms ks os x cs cs' ws ws' → or_ask x (ask (ltb p c.n) 7 0) ≡ 0 → x ≡ 0
          → RepairSays (code_refusal c) (single c) p (symbols_of ws' (mates (single c) p)) y → Restored c ms ks os p y cs cs' ws ws'
      unfolding RepairsAs RepairRestores
      restored_given x y L r e R =
          record {
            sent = L.sent;
            answer = subst (λ n. RepairsAs n c ws' p y) (sym r ∙ ap (λ a. or_ask a (ask (ltb p c.n) 7 0)) L.answer) R;
            restores = λ H h k.
                let s = single c in
                let P = (plain_of c H.accepted).family.placed in
                let n = length_encoded s ms in
                let below : Each (λ m. m < length (encoded s ms)) (mates s p) = rw n (mates_below s P p h) in
                let held = ap (λ w. symbols_of w (mates s p)) (word_is x L e) ∙ loss_mates (encoded s ms) ks os (mates s p) below k in
                repair_restores s ms p y (plain_of c H.accepted).family (mending_of c H.accepted) H.message_fits h
                (subst (λ n. RepairSays n s p (symbols_of (encoded s ms) (mates s p)) y) H.accepted
                (subst (λ xs. RepairSays (code_refusal c) s p xs y) held R));
          }
