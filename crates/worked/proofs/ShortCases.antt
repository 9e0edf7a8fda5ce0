-- The cases of codes with a short last group hold: by computing, over bytes by Quick, and where all messages are meant by what is proved of
-- codewords. Assumes nothing.
--   short_cases_hold    the end of the table of specs/Case.antt
--   a & b               the proof of a case, and of the cases after it
use mathlib.Core.Path.{◌≡◌, refl, ◌∙◌}
use mathlib.Core.Logic.{inr}
use mathlib.Core.List.{[], ◌∷◌}
use native.Mathlib.Omega.{arith}
use lib.Dec.{lit<, lit≤}
use Rattle.algebra.specs.Sequence.{tabulate_from, tabulate, count, every, all_below, Each}
use Rattle.field.specs.Field.{q, γ, xor_from, plus, minus, doubled, times_from, times, power, inverse}
use Rattle.field.specs.Polynomial.{dotted}
use Rattle.code.specs.declared.Code.{Code}
use Rattle.code.specs.declared.Shape.{Shape}
use Rattle.code.specs.Question.{ask}
use Rattle.code.specs.Shape.{ceiling, size, groups, room, missing, whole, wired, group, member, first, step, slot_at, members, point_at, point, others_from, others, mates, mates_number}
use Rattle.code.specs.Basis.{exponent, constant, good, vanish_from, vanishing, lead, short_basis, basis, degree, most_shared}
use Rattle.code.specs.Codeword.{is_message, value_from, value, symbol, encoded, guarantee}
use Rattle.code.specs.Decoding.{lost, agrees}
use Rattle.code.specs.Erasure.{lost_number, group_losses, stands, first_from, first_broken, grade}
use Rattle.code.specs.Repair.{weight_over, weights_over, restored, weights, repaired, symbols_of}
use Rattle.code.specs.Pass.{mendable}
use Rattle.code.specs.Family.{code_of, single, field_known, r_fits, n_fits, least, k_fits, wiring_fits, code_refusal}
use Rattle.code.specs.Laws.{Family}
use Rattle.code.specs.Promise.{Accepted}
use Rattle.code.proofs.Accepted.{plain_of}
use Rattle.previewing.specs.Preview.{marked, preview_of}
use Rattle.words.specs.Word.{word_bytes, bytes, word_at, code_word, kept_word, lost_word, end_word, slot_word, word_symbol, word_mark}
use Rattle.sheet.specs.Sheet.{sheet_words, middle_word, code_in, symbols_in, marks_in}
use Rattle.worked.specs.Case.{Holds, byte_message, S, short_message, short_word, T, short_bytes, U, L, short_cases}
use Rattle.worked.proofs.Quick.{raised, place_point, points_from, inverted, weighed, weights_by, repaired_by, vanish_by, sum_by, symbol_by, drawn_by, drawn_short}
use Rattle.worked.proofs.Deciding.{covered, restorable, left_after, first_differs, holds, any_held, pass_to, with_pass, within, past, near, foreign, undecided, graded_three, graded_four, previewed}

abbrev SS : Shape
SS = single S

abbrev ST : Shape
ST = single T

-- one short group
abbrev O : Code
O = code_of 1 14 13 12 0

s_accepted : Accepted S
unfolding code_refusal ask field_known r_fits n_fits least k_fits wiring_fits ceiling size groups room missing whole q
s_accepted = refl

t_accepted : Accepted T
unfolding code_refusal ask field_known r_fits n_fits least k_fits wiring_fits ceiling size groups room missing whole q
t_accepted = refl

s_family : Family SS
s_family = (plain_of S s_accepted).family

t_family : Family ST
t_family = (plain_of T t_accepted).family

-- the codewords
s_encoded : encoded SS short_message ≡ short_word
unfolding tabulate_from tabulate q γ times power ceiling size groups room missing whole wired group member point_at point encoded symbol value value_from basis short_basis constant good vanish_from vanishing lead plus minus
s_encoded = refl

t_encoded : encoded ST byte_message ≡ short_bytes
unfolding covered drawn_by symbol_by sum_by vanish_by constant lead place_point raised tabulate_from tabulate q γ times power ceiling size groups room missing whole wired group member plus minus xor_from doubled times_from
t_encoded = drawn_short ST refl byte_message ∙ refl

-- the codewords of other messages, which have the kept symbols too
s_rival : encoded SS (10 ∷ 8 ∷ 11 ∷ 5 ∷ 5 ∷ []) ≡ (11 ∷ 0 ∷ 6 ∷ 8 ∷ 5 ∷ 9 ∷ 4 ∷ 8 ∷ 7 ∷ 5 ∷ 7 ∷ [])
unfolding tabulate_from tabulate q γ times power ceiling size groups room missing whole wired group member point_at point encoded symbol value value_from basis short_basis constant good vanish_from vanishing lead plus minus
s_rival = refl

s_other : encoded SS (0 ∷ 4 ∷ 7 ∷ 9 ∷ 6 ∷ []) ≡ (9 ∷ 4 ∷ 2 ∷ 11 ∷ 4 ∷ 9 ∷ 4 ∷ 8 ∷ 7 ∷ 6 ∷ 11 ∷ [])
unfolding tabulate_from tabulate q γ times power ceiling size groups room missing whole wired group member point_at point encoded symbol value value_from basis short_basis constant good vanish_from vanishing lead plus minus
s_other = refl

t_rival : encoded ST (68 ∷ 140 ∷ 238 ∷ 5 ∷ 255 ∷ []) ≡ (184 ∷ 218 ∷ 169 ∷ 88 ∷ 134 ∷ 242 ∷ 199 ∷ 12 ∷ [])
unfolding covered drawn_by symbol_by sum_by vanish_by constant lead place_point raised tabulate_from tabulate q γ times power ceiling size groups room missing whole wired group member plus minus xor_from doubled times_from
t_rival = drawn_short ST refl (68 ∷ 140 ∷ 238 ∷ 5 ∷ 255 ∷ []) ∙ refl

t_other : encoded ST (69 ∷ 77 ∷ 2 ∷ 4 ∷ 255 ∷ []) ≡ (239 ∷ 132 ∷ 140 ∷ 88 ∷ 134 ∷ 218 ∷ 144 ∷ 126 ∷ [])
unfolding covered drawn_by symbol_by sum_by vanish_by constant lead place_point raised tabulate_from tabulate q γ times power ceiling size groups room missing whole wired group member plus minus xor_from doubled times_from
t_other = drawn_short ST refl (69 ∷ 77 ∷ 2 ∷ 4 ∷ 255 ∷ []) ∙ refl

-- one case, and the cases after it
infixr 20 ◌&◌
pub ◌&◌ : {A B : Type 0} → A → B → A × B
a & b = (a, b)

pub short_cases_hold : Each Holds short_cases
unfolding marked preview_of covered drawn_by symbol_by sum_by vanish_by place_point raised inverted weighed agrees tabulate_from tabulate count every all_below q γ xor_from plus minus doubled times_from times power inverse dotted ask ceiling size groups room missing whole wired field_known r_fits n_fits least k_fits wiring_fits code_refusal group member first step slot_at members point_at point exponent constant good vanish_from vanishing lead short_basis basis degree most_shared is_message value_from value symbol encoded lost lost_number group_losses stands first_from first_broken guarantee grade others_from others mates mates_number weight_over weights_over restored weights repaired symbols_of mendable restorable left_after word_bytes bytes word_at code_word kept_word lost_word end_word slot_word word_symbol word_mark sheet_words middle_word code_in symbols_in marks_in
short_cases_hold =
    refl
    & refl
    & refl
    & refl
    & refl
    & refl
    & refl
    & refl
    & refl
    & refl
    & refl
    & refl
    & refl
    & refl
    & refl
    & refl
    & refl
    & refl
    & refl
    & refl
    & refl
    & refl
    & refl
    & refl
    & refl
    & refl
    & refl
    & refl
    & refl
    & refl
    & refl
    & refl
    & refl
    & refl
    & refl
    & refl
    & refl
    & refl
    & refl
    & refl
    & refl
    & refl
    & refl
    & refl
    & refl
    & refl
    & refl
    & (refl, refl)
    & (refl, refl)
    & (refl, refl)
    & (refl, refl)
    & (refl, points_from ST 8 0 ∙ refl)
    & (refl, points_from (single O) 13 0 ∙ refl)
    & (refl, refl)
    & (refl, refl)
    & (refl, refl)
    & (refl, refl)
    & (refl, points_from ST 2 8 ∙ refl)
    & (refl, points_from (single O) 2 13 ∙ refl)
    & (refl, points_from (single L) 5 250 ∙ refl)
    & (refl, refl)
    & (refl, refl)
    & (refl, refl)
    & (refl, refl)
    & (refl, refl)
    & (refl, refl)
    & (refl, refl)
    & (refl, refl)
    & (refl, refl)
    & (refl, refl)
    & (refl, refl)
    & (refl, refl)
    & (refl, refl)
    & (refl, refl)
    & (refl, refl)
    & (refl, refl)
    & (refl, refl)
    & (refl, refl)
    & (refl, refl)
    & (refl, refl)
    & (refl, refl, s_encoded)
    & (refl, refl, refl)
    & (refl, refl, refl)
    & (refl, refl, refl)
    & (refl, refl, refl)
    & (refl, refl, refl)
    & (refl, refl, refl)
    & (refl, refl, refl)
    & (refl, refl, refl)
    & (refl, refl, refl)
    & (refl, refl, refl)
    & (refl, refl, refl)
    & (refl, refl, refl)
    & (refl, refl, refl)
    & (refl, refl, t_encoded)
    & (refl, refl, drawn_short (single U) refl (1 ∷ 2 ∷ 3 ∷ 4 ∷ []) ∙ refl)
    & (refl, refl, drawn_short (single (code_of 1 2 11 5 0)) refl byte_message ∙ refl)
    & (refl, refl, drawn_short (single (code_of 1 4 3 2 0)) refl (1 ∷ 2 ∷ []) ∙ refl)
    & (refl, refl, drawn_short (single O) refl (1 ∷ 2 ∷ 3 ∷ 4 ∷ 5 ∷ 6 ∷ 7 ∷ 8 ∷ 9 ∷ 10 ∷ 11 ∷ 12 ∷ []) ∙ refl)
    & (refl, lit< tt, refl)
    & (refl, lit< tt, refl)
    & (refl, lit< tt, refl)
    & (refl, lit< tt, refl)
    & (refl, lit< tt, refl)
    & (refl, lit< tt, refl)
    & (refl, lit< tt, refl)
    & (refl, lit< tt, weights_by T refl 7 (lit< tt) ∙ refl)
    & (refl, lit< tt, weights_by U refl 7 (lit< tt) ∙ refl)
    & (refl, lit< tt, weights_by O refl 12 (lit< tt) ∙ refl)
    & (refl, lit< tt, weights_by L refl 249 (lit< tt) ∙ refl)
    & (refl, lit< tt, refl, refl, holds SS s_family short_message short_word refl s_encoded (6 ∷ 7 ∷ []) (4 ∷ 8 ∷ []) refl, refl)
    & (refl, lit< tt, refl, refl, holds SS s_family short_message short_word refl s_encoded (10 ∷ []) (7 ∷ []) refl, refl)
    & (refl, lit< tt, refl, refl, holds SS s_family short_message short_word refl s_encoded (9 ∷ []) (5 ∷ []) refl, refl)
    & (refl, lit< tt, refl, refl, any_held (code_of 0 3 6 2 0) refl 5 (lit< tt) (inr (lit< tt)) (1 ∷ []) refl refl, refl)
    & (refl, lit< tt, refl, refl, any_held (code_of 0 11 5 4 0) refl 4 (lit< tt) (inr (lit< tt)) (1 ∷ 2 ∷ 3 ∷ 4 ∷ []) refl refl, refl)
    & (refl, lit< tt, refl, refl, any_held (code_of 0 2 2 1 0) refl 1 (lit< tt) (inr (lit< tt)) (1 ∷ []) refl refl, refl)
    & (refl, lit< tt, refl, refl, holds ST t_family byte_message short_bytes refl t_encoded (5 ∷ 6 ∷ []) (218 ∷ 144 ∷ []) refl, repaired_by T 7 (218 ∷ 144 ∷ []) (weights_by T refl 7 (lit< tt)) ∙ refl)
    & (refl, lit< tt, refl, refl, any_held U refl 7 (lit< tt) (inr (lit< tt)) (1 ∷ []) refl refl, repaired_by U 7 (1 ∷ []) (weights_by U refl 7 (lit< tt)) ∙ refl)
    & (refl, lit< tt, refl, refl, any_held O refl 12 (lit< tt) (inr (lit< tt)) (1 ∷ 2 ∷ 3 ∷ 4 ∷ 5 ∷ 6 ∷ 7 ∷ 8 ∷ 9 ∷ 10 ∷ 11 ∷ 12 ∷ []) refl refl, repaired_by O 12 (1 ∷ 2 ∷ 3 ∷ 4 ∷ 5 ∷ 6 ∷ 7 ∷ 8 ∷ 9 ∷ 10 ∷ 11 ∷ 12 ∷ []) (weights_by O refl 12 (lit< tt)) ∙ refl)
    & (refl, lit< tt, refl, refl, any_held L refl 249 (lit< tt) (inr (lit< tt)) (1 ∷ 2 ∷ 3 ∷ 4 ∷ 5 ∷ 6 ∷ 7 ∷ 8 ∷ 9 ∷ 10 ∷ 11 ∷ []) refl refl, repaired_by L 249 (1 ∷ 2 ∷ 3 ∷ 4 ∷ 5 ∷ 6 ∷ 7 ∷ 8 ∷ 9 ∷ 10 ∷ 11 ∷ []) (weights_by L refl 249 (lit< tt)) ∙ refl)
    & (refl, refl)
    & (refl, refl)
    & (refl, refl)
    & (refl, refl)
    & (refl, lit< tt, refl)
    & (refl, refl)
    & (refl, refl)
    & (refl, graded_three SS s_family short_message short_word refl s_encoded (0 ∷ 0 ∷ 1 ∷ 0 ∷ 0 ∷ 1 ∷ 0 ∷ 0 ∷ 1 ∷ 1 ∷ 1 ∷ []) refl refl refl (lit≤ tt))
    & (refl, refl)
    & (refl, refl)
    & (refl, refl)
    & (refl, refl)
    & (refl, refl)
    & with_pass refl (pass_to SS s_family short_message short_word refl s_encoded (255 ∷ 10 ∷ 12 ∷ 255 ∷ 4 ∷ 9 ∷ 255 ∷ 8 ∷ 7 ∷ 5 ∷ 255 ∷ []) (1 ∷ 0 ∷ 0 ∷ 1 ∷ 0 ∷ 0 ∷ 1 ∷ 0 ∷ 0 ∷ 0 ∷ 1 ∷ []) refl refl _ _ _ refl refl refl)
    & with_pass refl (pass_to SS s_family short_message short_word refl s_encoded (255 ∷ 10 ∷ 12 ∷ 255 ∷ 255 ∷ 9 ∷ 4 ∷ 8 ∷ 7 ∷ 255 ∷ 7 ∷ []) (1 ∷ 0 ∷ 0 ∷ 1 ∷ 1 ∷ 0 ∷ 0 ∷ 0 ∷ 0 ∷ 1 ∷ 0 ∷ []) refl refl _ _ _ refl refl refl)
    & with_pass refl (pass_to SS s_family short_message short_word refl s_encoded (5 ∷ 10 ∷ 12 ∷ 11 ∷ 4 ∷ 9 ∷ 4 ∷ 8 ∷ 7 ∷ 255 ∷ 255 ∷ []) (0 ∷ 0 ∷ 0 ∷ 0 ∷ 0 ∷ 0 ∷ 0 ∷ 0 ∷ 0 ∷ 1 ∷ 1 ∷ []) refl refl _ _ _ refl refl refl)
    & with_pass refl (pass_to SS s_family short_message short_word refl s_encoded (255 ∷ 255 ∷ 12 ∷ 11 ∷ 4 ∷ 9 ∷ 4 ∷ 8 ∷ 7 ∷ 5 ∷ 255 ∷ []) (1 ∷ 1 ∷ 0 ∷ 0 ∷ 0 ∷ 0 ∷ 0 ∷ 0 ∷ 0 ∷ 0 ∷ 1 ∷ []) refl refl _ _ _ refl refl refl)
    & with_pass refl (pass_to ST t_family byte_message short_bytes refl t_encoded (255 ∷ 218 ∷ 169 ∷ 88 ∷ 134 ∷ 218 ∷ 255 ∷ 126 ∷ []) (1 ∷ 0 ∷ 0 ∷ 0 ∷ 0 ∷ 0 ∷ 1 ∷ 0 ∷ []) refl refl _ _ _ refl refl refl)
    & with_pass refl (pass_to ST t_family byte_message short_bytes refl t_encoded (184 ∷ 218 ∷ 255 ∷ 88 ∷ 134 ∷ 255 ∷ 144 ∷ 255 ∷ []) (0 ∷ 0 ∷ 1 ∷ 0 ∷ 0 ∷ 1 ∷ 0 ∷ 1 ∷ []) refl refl _ _ _ refl refl refl)
    & (refl, within SS s_family short_message short_word refl s_encoded _ _ refl (lit≤ tt))
    & (refl, within SS s_family short_message short_word refl s_encoded _ _ refl (lit≤ tt))
    & (refl, past SS s_family short_message short_word refl s_encoded _ _ refl refl (lit≤ tt))
    & (refl, near SS s_family short_message short_word refl s_encoded _ _ refl refl (lit≤ tt) _ refl)
    & (refl, undecided SS s_family short_message short_word refl s_encoded (10 ∷ 8 ∷ 11 ∷ 5 ∷ 5 ∷ []) _ refl s_rival (first_differs _ _ (λ z. omega arith)) _ _ refl refl)
    & (refl, graded_four SS s_family short_message short_word refl s_encoded (10 ∷ 8 ∷ 11 ∷ 5 ∷ 5 ∷ []) _ refl s_rival (first_differs _ _ (λ z. omega arith)) (1 ∷ 1 ∷ 1 ∷ 1 ∷ 1 ∷ 0 ∷ 0 ∷ 0 ∷ 0 ∷ 0 ∷ 0 ∷ []) refl)
    & (refl, undecided SS s_family short_message short_word refl s_encoded (0 ∷ 4 ∷ 7 ∷ 9 ∷ 6 ∷ []) _ refl s_other (first_differs _ _ (λ z. omega arith)) _ _ refl refl)
    & (refl, graded_four SS s_family short_message short_word refl s_encoded (0 ∷ 4 ∷ 7 ∷ 9 ∷ 6 ∷ []) _ refl s_other (first_differs _ _ (λ z. omega arith)) (1 ∷ 1 ∷ 1 ∷ 0 ∷ 0 ∷ 0 ∷ 0 ∷ 0 ∷ 0 ∷ 1 ∷ 1 ∷ []) refl)
    & (refl, undecided SS s_family short_message short_word refl s_encoded (0 ∷ 4 ∷ 7 ∷ 9 ∷ 6 ∷ []) _ refl s_other (first_differs _ _ (λ z. omega arith)) _ _ refl refl)
    & (refl, foreign SS s_family short_message short_word refl s_encoded _ _ (0 ∷ 0 ∷ 0 ∷ 0 ∷ 0 ∷ 0 ∷ 0 ∷ 0 ∷ 0 ∷ 0 ∷ 1 ∷ []) 10 refl refl (lit≤ tt) (lit< tt) refl (λ z. omega arith))
    & (refl, within ST t_family byte_message short_bytes refl t_encoded _ _ refl (lit≤ tt))
    & (refl, past ST t_family byte_message short_bytes refl t_encoded _ _ refl refl (lit≤ tt))
    & (refl, graded_three ST t_family byte_message short_bytes refl t_encoded (1 ∷ 0 ∷ 0 ∷ 0 ∷ 0 ∷ 1 ∷ 1 ∷ 0 ∷ []) refl refl refl (lit≤ tt))
    & (refl, lit< tt, previewed ST 0 (0 ∷ 0 ∷ 0 ∷ 0 ∷ 0 ∷ 1 ∷ 1 ∷ 0 ∷ []) (1 ∷ 0 ∷ 0 ∷ 0 ∷ 0 ∷ 1 ∷ 1 ∷ 0 ∷ []) refl refl (graded_three ST t_family byte_message short_bytes refl t_encoded (1 ∷ 0 ∷ 0 ∷ 0 ∷ 0 ∷ 1 ∷ 1 ∷ 0 ∷ []) refl refl refl (lit≤ tt)) refl)
    & (refl, undecided ST t_family byte_message short_bytes refl t_encoded (68 ∷ 140 ∷ 238 ∷ 5 ∷ 255 ∷ []) _ refl t_rival (first_differs _ _ (λ z. omega arith)) _ _ refl refl)
    & (refl, graded_four ST t_family byte_message short_bytes refl t_encoded (68 ∷ 140 ∷ 238 ∷ 5 ∷ 255 ∷ []) _ refl t_rival (first_differs _ _ (λ z. omega arith)) (0 ∷ 0 ∷ 0 ∷ 0 ∷ 0 ∷ 1 ∷ 1 ∷ 1 ∷ []) refl)
    & (refl, lit< tt, previewed ST 7 (0 ∷ 0 ∷ 0 ∷ 0 ∷ 0 ∷ 1 ∷ 1 ∷ 0 ∷ []) (0 ∷ 0 ∷ 0 ∷ 0 ∷ 0 ∷ 1 ∷ 1 ∷ 1 ∷ []) refl refl (graded_four ST t_family byte_message short_bytes refl t_encoded (68 ∷ 140 ∷ 238 ∷ 5 ∷ 255 ∷ []) _ refl t_rival (first_differs _ _ (λ z. omega arith)) (0 ∷ 0 ∷ 0 ∷ 0 ∷ 0 ∷ 1 ∷ 1 ∷ 1 ∷ []) refl) refl)
    & (refl, undecided ST t_family byte_message short_bytes refl t_encoded (69 ∷ 77 ∷ 2 ∷ 4 ∷ 255 ∷ []) _ refl t_other (first_differs _ _ (λ z. omega arith)) _ _ refl refl)
    & (refl, foreign ST t_family byte_message short_bytes refl t_encoded _ _ (0 ∷ 0 ∷ 0 ∷ 0 ∷ 0 ∷ 0 ∷ 0 ∷ 1 ∷ []) 7 refl refl (lit≤ tt) (lit< tt) refl (λ z. omega arith))
    & (refl, refl, refl, refl, refl)
    & (refl, refl, refl, refl, refl)
    & tt
