-- How the report follows from what was read, decoded and put. Assumes nothing.
--   refusal_of                     decode's refusal, of a code
--   drawn                          an accepted stripe has a filled record
--   decodes, read_decodes          an accepted sheet's stripe passes decode's questions
--   draw_says                      so it has a record, and no refusal
--   few_symbols, small_record, record_lines    the length of a record's message, the size of its numbers, and its lines
--   says_refused, says_drawn, says_page    the report, from its parts
use mathlib.Core.Path.{◌≡◌, sym, ap, ap₂, ◌∙◌, subst}
use mathlib.Core.Logic.{◌≢◌}
use mathlib.Core.List.{List, ◌++◌}
use Prim.Native.Nat.{ℕ, ◌≤◌, ◌<◌}
use native.Mathlib.Omega.{arith}
use lib.ListN.{length, take, drop}
use lib.Seq.{take_at}
use Rattle.algebra.proofs.Booleans.{yes_true}
use Rattle.code.specs.declared.Code.{Code}
use Rattle.code.specs.Family.{single, code_refusal}
use Rattle.code.specs.declared.Answer.{Answer}
use Rattle.code.specs.Verdict.{Verdict}
use Rattle.code.proofs.Accepted.{plain_of}
use Rattle.code.proofs.Bounds.{k_most, work_most}
use Rattle.decode.specs.Decode.{decode_refusal}
use Rattle.recording.specs.Recording.{Recorded, outcome_number, recorded_of, Numbers, Filled, RecordAs, RecordSays}
use Rattle.recording.specs.declared.Outcome.{Outcome}
use Rattle.recording.specs.declared.Outcome.TheVariants.{Decided, Foreign, Undecided}
use Rattle.recording.specs.declared.StripeRecord.{StripeRecord}
use Rattle.decode.proofs.Refusals.{none}
use Rattle.refusal.specs.declared.Refusal.{Refusal}
use Rattle.refusal.proofs.Refusals.{is_refusal}
use Rattle.std.specs.Prelude.{Result, Ok, Err}
use Rattle.sheet.specs.Sheet.{code_in, symbols_in, marks_in}
use Rattle.sheet.specs.Calls.{sheet_refusal, sheet_answer}
use Rattle.sheet.proofs.Accepted.{GoodSheet, good_sheet}
use Rattle.sheet.proofs.Reading.{Told}
use Rattle.sheet.proofs.WriteBack.{stripe_again}
use Rattle.text.specs.Text.{refused_line, stripe_lines, Small, Puts}
use Rattle.text.specs.declared.Page.{Page}
use Rattle.text.proofs.Puts.{puts_as, front_end, front_text}
use Rattle.reporting.specs.Report.{stripe_report, refused, stripe, ReportSays, written}
use Rattle.reporting.specs.Step.{Drawn, DrawSays, TextSays}
use Rattle.reporting.proofs.Bounds.{small_numbers}

-- the refusal of decode, of a code
abbrev pub refusal_of : Code → (word marks : List ℕ) → (message work : ℕ) → ℕ
refusal_of c ws ms a b = decode_refusal (code_refusal c) (single c) ws ms a b

pub drawn : (c : Code) (ws ms : List ℕ) (x : Recorded) (a z w v : List ℕ) → refusal_of c ws ms (length a) (length w) ≡ 0
    → RecordSays (code_refusal c) c (single c) ws ms x a z w v → Filled c (single c) ws ms x a z w v
unfolding RecordSays RecordAs
drawn c ws ms x a z w v e r = subst (λ n. RecordAs n c (single c) ws ms x a z w v) e r

pub outcome_most : (o : Outcome) → outcome_number o < 1000
unfolding outcome_number
outcome_most Decided = omega arith
outcome_most Foreign = omega arith
outcome_most Undecided = omega arith

pub decodes : (s : List ℕ) (a b : ℕ) → GoodSheet s → a ≡ (code_in s).k → 61455 ≤ b → refusal_of (code_in s) (symbols_in s) (marks_in s) a b ≡ 0
decodes s a b g e m =
    let t = stripe_again s g in
    let h = single (code_in s) in
    none (code_refusal (code_in s)) h (symbols_in s) (marks_in s) a b t.code t.word t.marks e (omega (arith, work_most h (plain_of (code_in s) t.code))) (yes_true _ t.marked) (yes_true _ t.kept)

-- what the reader of an accepted sheet is told
module _ {s b e : List ℕ} {c : Code} (t : Told s b e (sheet_answer (Ok c))) where
  read_decodes : (l w : ℕ) → l ≡ c.k → 61455 ≤ w → refusal_of c (take c.n b) (take c.n e) l w ≡ 0
  read_decodes l w k m =
      subst (λ d. refusal_of d (take c.n b) (take c.n e) l w ≡ 0) (sym t.code_is)
      (ap₂ (λ ws ms. refusal_of (code_in s) ws ms l w) t.word_is t.marks_are
      ∙ decodes s l w (good_sheet s t.passed) (k ∙ ap (λ c. c.k) t.code_is) m)

  -- d: what follows the message in its buffer
  pub draw_says : (x : Result StripeRecord Refusal) (a z w v d : List ℕ) → length a ≡ c.k → length z ≡ c.k → 61455 ≤ length w
      → RecordSays (code_refusal c) c (single c) (take c.n b) (take c.n e) (recorded_of x) a z w v → DrawSays s (z ++ d) x
  draw_says (Err f) a z w v d k l m r =
      absurd (is_refusal f (drawn c (take c.n b) (take c.n e) (recorded_of (Err f)) a z w v (read_decodes (length a) (length w) k m) r).refusal)
  draw_says (Ok x) a z w v d k l m r =
      let f = drawn c (take c.n b) (take c.n e) (recorded_of (Ok x)) a z w v (read_decodes (length a) (length w) k m) r in
      let i = outcome_number x.outcome in
      let g = subst (λ ms. Verdict (single c) (take c.n b) ms a z i) t.marks_are f.verdict in
      let h = subst (λ ws. Verdict (single c) ws (marks_in s) a z i) t.word_is g in
      let j = subst (λ c. Verdict (single c) (symbols_in s) (marks_in s) a z i) t.code_is h in
      record {
        passed = t.passed;
        numbers = subst (λ c. Numbers c (single c) (marks_in s) x) t.code_is (subst (λ ms. Numbers c (single c) ms x) t.marks_are f.numbers);
        before = a;
        verdict = subst (λ xs. Verdict (single (code_in s)) (symbols_in s) (marks_in s) a xs i) (sym (take_at z d x.code.k (l ∙ sym (ap (λ c. c.k) f.numbers.code)))) j;
      }

module _ {s m : List ℕ} {r : StripeRecord} (D : Drawn s m r) where
  n : Numbers (code_in s) (single (code_in s)) (marks_in s) r
  n = D.numbers

  accepted : code_refusal (code_in s) ≡ 0
  accepted = (good_sheet s D.passed).code

  pub few_symbols : r.code.k ≤ 240
  few_symbols = omega (arith, ap (λ c. c.k) n.code, k_most (single (code_in s)) (plain_of (code_in s) accepted))

  pub small_record : (v : ℕ) → v ≡ outcome_number r.outcome → Small r.code r.lost r.guarantee r.grade r.first v
  small_record v e =
      let t = small_numbers (code_in s) (marks_in s) v accepted (omega (arith, e, outcome_most r.outcome)) in
      let c = sym n.code in
      record {
        field_small = subst (λ c. c.field < 1000) c t.field_small;
        r_small = subst (λ c. c.r < 1000) c t.r_small;
        n_small = subst (λ c. c.n < 1000) c t.n_small;
        k_small = subst (λ c. c.k < 1000) c t.k_small;
        lost_small = omega (arith, t.lost_small, n.lost);
        sure_small = omega (arith, t.sure_small, n.guarantee_is);
        grade_small = omega (arith, t.grade_small, n.grade_is);
        first_small = omega (arith, t.first_small, n.first);
        outcome_small = t.outcome_small;
      }

  record_lines : (v : ℕ) (xs : List ℕ) → v ≡ outcome_number r.outcome
      → stripe_lines r.code r.lost r.guarantee r.grade r.first v xs ≡ stripe_report (code_in s) (marks_in s) (outcome_number r.outcome) xs
  unfolding stripe_report
  record_lines v xs e = cc (n.code, n.lost, n.guarantee_is, n.grade_is, n.first)

  pub says_drawn : (v : ℕ) (t z : List ℕ) (x : ℕ) → v ≡ outcome_number r.outcome
      → Puts (stripe_lines r.code r.lost r.guarantee r.grade r.first v (take r.code.k m)) t 0 z x → x ≤ 1032 → TextSays s t z x
  says_drawn v t z x e p l =
      record {
        bytes = stripe_report (code_in s) (marks_in s) (outcome_number r.outcome) (take r.code.k m);
        report = stripe D.passed D.verdict;
        puts = puts_as (record_lines v (take r.code.k m) e) p;
        most = l;
      }

pub says_refused : (s t z : List ℕ) (x m : ℕ) → m ≡ sheet_refusal s → m ≢ 0 → Puts (refused_line m) t 0 z x → x ≤ 1032 → TextSays s t z x
says_refused s t z x m e h p l =
    record { bytes = refused_line (sheet_refusal s); report = refused (λ i. h (e ∙ i)); puts = puts_as (ap refused_line e) p; most = l }

-- p: the page before; q: after
pub says_page : (s t z : List ℕ) (p q : Page) (a : Answer) → z ≡ q.text.now → p.text.now ≡ t → 1032 ≤ length t → a.refusal ≡ 0 → a.value ≡ q.end
    → TextSays s p.text.now q.text.now q.end → ReportSays s t z a
says_page s t z p q a e d h r v T = written h T.report r (v ∙ front_end T.puts) (e ∙ front_text T.puts ∙ ap (λ t. T.bytes ++ drop (length T.bytes) t) d)
