-- The classroom sheet's cases hold: by computing, over bytes by Quick, and where all messages are meant by what is proved of codewords.
-- Assumes nothing.
--   cases_hold    CasesHold of specs/Case.antt
use mathlib.Core.Path.{◌≡◌, refl, ◌∙◌}
use mathlib.Core.List.{[], ◌∷◌}
use native.Mathlib.Omega.{arith}
use lib.Dec.{lit<, lit≤}
use Rattle.algebra.specs.Sequence.{tabulate_from, tabulate, count, every, all_below}
use Rattle.field.specs.Field.{q, γ, xor_from, plus, minus, doubled, times_from, times, power, inverse}
use Rattle.field.specs.Polynomial.{dotted}
use Rattle.code.specs.declared.Shape.{Shape}
use Rattle.code.specs.Question.{ask}
use Rattle.code.specs.Search.{any}
use Rattle.code.specs.Shape.{ceiling, size, groups, room, missing, whole, wired, group, member, first, step, slot_at, members, point_at, point, others_from, others, mates, mates_number}
use Rattle.code.specs.Basis.{exponent, whole_basis, basis, degree, most_shared}
use Rattle.code.specs.Codeword.{is_message, value_from, value, symbol, encoded, guarantee}
use Rattle.code.specs.Decoding.{lost, agrees}
use Rattle.code.specs.Erasure.{lost_number, group_losses, stands, first_from, first_broken, grade}
use Rattle.code.specs.Repair.{weight_over, weights_over, restored, weights, repaired, symbols_of}
use Rattle.code.specs.Pass.{mendable}
use Rattle.code.specs.Family.{code_of, single, field_known, r_fits, n_fits, least, k_fits, wiring_fits, code_refusal}
use Rattle.code.specs.Laws.{Family}
use Rattle.code.specs.Promise.{Accepted}
use Rattle.code.proofs.Accepted.{plain_of}
use Rattle.previewing.specs.Preview.{marked, preview_of}
use Rattle.words.specs.Word.{word_bytes, bytes, word_at, code_word, kept_word, lost_word, end_word, slot_word, word_symbol, word_mark}
use Rattle.sheet.specs.Sheet.{sheet_words, middle_word, code_in, symbols_in, marks_in}
use Rattle.worked.specs.Case.{N, ones, word, W, wired_ones, wired_message, wired_word, B, byte_message, byte_word, CasesHold}
use Rattle.worked.proofs.Quick.{raised, place_point, inverted, weighed, weights_by, points_from, drawn, drawn_is}
use Rattle.worked.proofs.Deciding.{covered, spread, restorable, left_after, first_differs, holds, untrue, pass_to, with_pass, within, past, near, near_none, foreign, undecided, graded_three, graded_four, previewed}
use Rattle.worked.proofs.ShortCases.{◌&◌}
use Rattle.worked.proofs.ToldCases.{K, KW, R, k_family, v_family, r_family, told_cases_hold}

abbrev SN : Shape
SN = single N

abbrev SW : Shape
SW = single W

abbrev SB : Shape
SB = single B

n_accepted : Accepted N
unfolding code_refusal ask field_known r_fits n_fits least k_fits wiring_fits ceiling size groups room missing whole q
n_accepted = refl

w_accepted : Accepted W
unfolding code_refusal ask field_known r_fits n_fits least k_fits wiring_fits ceiling size groups room missing whole q
w_accepted = refl

b_accepted : Accepted B
unfolding code_refusal ask field_known r_fits n_fits least k_fits wiring_fits ceiling size groups room missing whole q
b_accepted = refl

family : Family SN
family = (plain_of N n_accepted).family

wired_family : Family SW
wired_family = (plain_of W w_accepted).family

byte_family : Family SB
byte_family = (plain_of B b_accepted).family

-- the codewords
ones_encoded : encoded SN ones ≡ word
unfolding tabulate_from tabulate q γ times power ceiling size groups room missing whole wired group member point_at point encoded symbol value value_from basis whole_basis exponent plus
ones_encoded = refl

wired_encoded : encoded SW wired_message ≡ wired_word
unfolding tabulate_from tabulate q γ times power ceiling size groups room missing whole wired group member point_at point encoded symbol value value_from basis whole_basis exponent plus
wired_encoded = refl

ones_wired : encoded SW ones ≡ wired_ones
unfolding tabulate_from tabulate q γ times power ceiling size groups room missing whole wired group member point_at point encoded symbol value value_from basis whole_basis exponent plus
ones_wired = refl

byte_encoded : encoded SB byte_message ≡ byte_word
unfolding drawn place_point raised tabulate_from tabulate q γ times ceiling size groups room missing whole wired group member value value_from basis whole_basis exponent power plus xor_from doubled times_from
byte_encoded = drawn_is SB byte_message ∙ refl

-- the codewords of other messages, which have the kept symbols too
rival_encoded : encoded SN (0 ∷ 8 ∷ 2 ∷ 7 ∷ []) ≡ (4 ∷ 8 ∷ 7 ∷ 1 ∷ 10 ∷ 11 ∷ 2 ∷ 10 ∷ 8 ∷ [])
unfolding tabulate_from tabulate q γ times power ceiling size groups room missing whole wired group member point_at point encoded symbol value value_from basis whole_basis exponent plus
rival_encoded = refl

wired_rival : encoded SW (11 ∷ 1 ∷ 6 ∷ 5 ∷ []) ≡ (10 ∷ 11 ∷ 2 ∷ 9 ∷ 6 ∷ 9 ∷ 6 ∷ 4 ∷ 4 ∷ [])
unfolding tabulate_from tabulate q γ times power ceiling size groups room missing whole wired group member point_at point encoded symbol value value_from basis whole_basis exponent plus
wired_rival = refl

byte_rival : encoded SB (59 ∷ 2 ∷ 75 ∷ 4 ∷ 254 ∷ []) ≡ (136 ∷ 108 ∷ 97 ∷ 64 ∷ 244 ∷ 1 ∷ 70 ∷ 176 ∷ 125 ∷ [])
unfolding drawn place_point raised tabulate_from tabulate q γ times ceiling size groups room missing whole wired group member value value_from basis whole_basis exponent power plus xor_from doubled times_from
byte_rival = drawn_is SB (59 ∷ 2 ∷ 75 ∷ 4 ∷ 254 ∷ []) ∙ refl

-- the codewords that have three of four mates' symbols
foreign_encoded : encoded K (44 ∷ 165 ∷ 91 ∷ []) ≡ (210 ∷ 8 ∷ 100 ∷ 201 ∷ 91 ∷ 10 ∷ 200 ∷ 126 ∷ 30 ∷ 142 ∷ [])
unfolding drawn place_point raised tabulate_from tabulate q γ times ceiling size groups room missing whole wired group member value value_from basis whole_basis exponent power plus xor_from doubled times_from
foreign_encoded = drawn_is K (44 ∷ 165 ∷ 91 ∷ []) ∙ refl

foreign_wired : encoded KW (203 ∷ 104 ∷ 67 ∷ []) ≡ (224 ∷ 10 ∷ 96 ∷ 200 ∷ 74 ∷ 30 ∷ 79 ∷ 33 ∷ 78 ∷ 54 ∷ [])
unfolding drawn place_point raised tabulate_from tabulate q γ times ceiling size groups room missing whole wired group member value value_from basis whole_basis exponent power plus xor_from doubled times_from
foreign_wired = drawn_is KW (203 ∷ 104 ∷ 67 ∷ []) ∙ refl

pub cases_hold : CasesHold
unfolding CasesHold marked preview_of covered drawn place_point raised inverted weighed agrees tabulate_from tabulate count every all_below q γ xor_from plus minus doubled times_from times power inverse dotted ask ceiling size groups room missing whole wired field_known r_fits n_fits least k_fits wiring_fits code_refusal group member first step slot_at members point_at point exponent whole_basis basis degree most_shared is_message value_from value symbol encoded lost lost_number group_losses stands first_from first_broken guarantee grade others_from others mates mates_number weight_over weights_over restored weights repaired symbols_of mendable restorable left_after spread any word_bytes bytes word_at code_word kept_word lost_word end_word slot_word word_symbol word_mark sheet_words middle_word code_in symbols_in marks_in
cases_hold =
    (refl, refl)
    & (refl, refl, ones_encoded)
    & (refl, refl, refl)
    & (refl, refl, refl)
    & (refl, refl, drawn_is (single (code_of 1 2 9 5 0)) byte_message ∙ refl)
    & (refl, lit< tt, refl, refl, holds SN family ones word refl ones_encoded (1 ∷ 2 ∷ []) (8 ∷ 7 ∷ []) refl, refl)
    & (refl, lit< tt, refl, refl, untrue R r_family (5 ∷ []) (5 ∷ 5 ∷ 5 ∷ []) refl refl (1 ∷ 2 ∷ []) (5 ∷ 7 ∷ []) (1 ∷ 0 ∷ 1 ∷ []) 1 refl refl (lit≤ tt) (lit< tt) (λ z. omega arith))
    & (refl, lit< tt, weights_by (code_of 1 4 10 3 0) refl 7 (lit< tt) ∙ refl)
    & (refl, lit< tt, refl, refl, untrue K k_family (44 ∷ 165 ∷ 91 ∷ []) _ refl foreign_encoded (5 ∷ 6 ∷ 8 ∷ 9 ∷ []) (10 ∷ 200 ∷ 30 ∷ 140 ∷ []) (1 ∷ 1 ∷ 1 ∷ 1 ∷ 1 ∷ 0 ∷ 0 ∷ 1 ∷ 0 ∷ 1 ∷ []) 3 refl refl (lit≤ tt) (lit< tt) (λ z. omega arith))
    & (refl, refl)
    & (refl, within SN family ones word refl ones_encoded _ _ refl (lit≤ tt))
    & (refl, refl)
    & (refl, past SN family ones word refl ones_encoded _ _ refl refl (lit≤ tt))
    & (refl, graded_three SN family ones word refl ones_encoded (0 ∷ 0 ∷ 1 ∷ 0 ∷ 0 ∷ 1 ∷ 1 ∷ 1 ∷ 1 ∷ []) refl refl refl (lit≤ tt))
    & (refl, undecided SN family ones word refl ones_encoded (0 ∷ 8 ∷ 2 ∷ 7 ∷ []) _ refl rival_encoded (first_differs _ _ (λ z. omega arith)) _ _ refl refl)
    & (refl, graded_four SN family ones word refl ones_encoded (0 ∷ 8 ∷ 2 ∷ 7 ∷ []) _ refl rival_encoded (first_differs _ _ (λ z. omega arith)) (0 ∷ 0 ∷ 0 ∷ 0 ∷ 1 ∷ 1 ∷ 1 ∷ 1 ∷ 1 ∷ []) refl)
    & (refl, foreign SN family ones word refl ones_encoded _ _ (0 ∷ 0 ∷ 0 ∷ 0 ∷ 0 ∷ 0 ∷ 0 ∷ 0 ∷ 1 ∷ []) 8 refl refl (lit≤ tt) (lit< tt) refl (λ z. omega arith))
    & (refl, undecided SN family ones word refl ones_encoded (0 ∷ 8 ∷ 2 ∷ 7 ∷ []) _ refl rival_encoded (first_differs _ _ (λ z. omega arith)) _ _ refl refl)
    & (refl, graded_four SN family ones word refl ones_encoded (0 ∷ 8 ∷ 2 ∷ 7 ∷ []) _ refl rival_encoded (first_differs _ _ (λ z. omega arith)) (1 ∷ 1 ∷ 1 ∷ 1 ∷ 1 ∷ 1 ∷ 1 ∷ 1 ∷ 1 ∷ []) refl)
    & (refl, near SN family ones word refl ones_encoded _ _ refl refl (lit≤ tt) _ refl)
    & (refl, near SN family ones word refl ones_encoded _ _ refl refl (lit≤ tt) _ refl)
    & (refl, near SN family ones word refl ones_encoded _ _ refl refl (lit≤ tt) _ refl)
    & (refl, near_none SN family _ _ refl 10 (λ z. omega arith) (undecided SN family ones word refl ones_encoded (0 ∷ 8 ∷ 2 ∷ 7 ∷ []) _ refl rival_encoded (first_differs _ _ (λ z. omega arith)) _ _ refl refl))
    & (refl, lit< tt, refl)
    & (refl, lit< tt, refl)
    & (refl, lit< tt, previewed SN 8 (0 ∷ 0 ∷ 1 ∷ 0 ∷ 0 ∷ 1 ∷ 1 ∷ 1 ∷ 0 ∷ []) (0 ∷ 0 ∷ 1 ∷ 0 ∷ 0 ∷ 1 ∷ 1 ∷ 1 ∷ 1 ∷ []) refl refl (graded_three SN family ones word refl ones_encoded (0 ∷ 0 ∷ 1 ∷ 0 ∷ 0 ∷ 1 ∷ 1 ∷ 1 ∷ 1 ∷ []) refl refl refl (lit≤ tt)) refl)
    & (refl, lit< tt, previewed SN 8 (0 ∷ 0 ∷ 0 ∷ 0 ∷ 1 ∷ 1 ∷ 1 ∷ 1 ∷ 0 ∷ []) (0 ∷ 0 ∷ 0 ∷ 0 ∷ 1 ∷ 1 ∷ 1 ∷ 1 ∷ 1 ∷ []) refl refl (graded_four SN family ones word refl ones_encoded (0 ∷ 8 ∷ 2 ∷ 7 ∷ []) _ refl rival_encoded (first_differs _ _ (λ z. omega arith)) (0 ∷ 0 ∷ 0 ∷ 0 ∷ 1 ∷ 1 ∷ 1 ∷ 1 ∷ 1 ∷ []) refl) refl)
    & refl
    & refl
    & refl
    & refl
    & refl
    & refl
    & refl
    & refl
    & refl
    & (refl, refl)
    & refl
    & refl
    & refl
    & (refl, refl)
    & (refl, points_from SB 9 0 ∙ refl)
    & (refl, refl, ones_wired)
    & (refl, refl, wired_encoded)
    & (refl, refl, refl)
    & (refl, refl, byte_encoded)
    & (refl, lit< tt, refl, refl, holds SW wired_family ones wired_ones refl ones_wired (3 ∷ 6 ∷ []) (8 ∷ 7 ∷ []) refl, refl)
    & (refl, lit< tt, refl, refl, holds SW wired_family ones wired_ones refl ones_wired (1 ∷ 7 ∷ []) (1 ∷ 2 ∷ []) refl, refl)
    & (refl, lit< tt, weights_by (code_of 1 4 10 3 1) refl 7 (lit< tt) ∙ refl)
    & (refl, lit< tt, refl, refl, untrue KW v_family (203 ∷ 104 ∷ 67 ∷ []) _ refl foreign_wired (1 ∷ 3 ∷ 5 ∷ 9 ∷ []) (10 ∷ 200 ∷ 30 ∷ 140 ∷ []) (1 ∷ 0 ∷ 1 ∷ 0 ∷ 1 ∷ 0 ∷ 1 ∷ 1 ∷ 1 ∷ 1 ∷ []) 3 refl refl (lit≤ tt) (lit< tt) (λ z. omega arith))
    & (refl, refl)
    & (refl, refl)
    & with_pass refl (pass_to SW wired_family wired_message wired_word refl wired_encoded (255 ∷ 2 ∷ 3 ∷ 255 ∷ 255 ∷ 0 ∷ 6 ∷ 0 ∷ 4 ∷ []) (1 ∷ 0 ∷ 0 ∷ 1 ∷ 1 ∷ 0 ∷ 0 ∷ 0 ∷ 0 ∷ []) refl refl _ _ _ refl refl refl)
    & with_pass refl (pass_to SB byte_family byte_message byte_word refl byte_encoded (255 ∷ 108 ∷ 97 ∷ 255 ∷ 255 ∷ 1 ∷ 53 ∷ 176 ∷ 125 ∷ []) (1 ∷ 0 ∷ 0 ∷ 1 ∷ 1 ∷ 0 ∷ 0 ∷ 0 ∷ 0 ∷ []) refl refl _ _ _ refl refl refl)
    & (refl, within SW wired_family wired_message wired_word refl wired_encoded _ _ refl (lit≤ tt))
    & (refl, past SW wired_family wired_message wired_word refl wired_encoded _ _ refl refl (lit≤ tt))
    & (refl, near SW wired_family wired_message wired_word refl wired_encoded _ _ refl refl (lit≤ tt) _ refl)
    & (refl, graded_three SW wired_family wired_message wired_word refl wired_encoded (0 ∷ 0 ∷ 1 ∷ 0 ∷ 0 ∷ 1 ∷ 1 ∷ 1 ∷ 1 ∷ []) refl refl refl (lit≤ tt))
    & (refl, undecided SW wired_family wired_message wired_word refl wired_encoded (11 ∷ 1 ∷ 6 ∷ 5 ∷ []) _ refl wired_rival (first_differs _ _ (λ z. omega arith)) _ _ refl refl)
    & (refl, graded_four SW wired_family wired_message wired_word refl wired_encoded (11 ∷ 1 ∷ 6 ∷ 5 ∷ []) _ refl wired_rival (first_differs _ _ (λ z. omega arith)) (0 ∷ 1 ∷ 1 ∷ 0 ∷ 1 ∷ 1 ∷ 0 ∷ 1 ∷ 0 ∷ []) refl)
    & (refl, lit< tt, previewed SW 7 (0 ∷ 1 ∷ 1 ∷ 0 ∷ 1 ∷ 1 ∷ 0 ∷ 0 ∷ 0 ∷ []) (0 ∷ 1 ∷ 1 ∷ 0 ∷ 1 ∷ 1 ∷ 0 ∷ 1 ∷ 0 ∷ []) refl refl (graded_four SW wired_family wired_message wired_word refl wired_encoded (11 ∷ 1 ∷ 6 ∷ 5 ∷ []) _ refl wired_rival (first_differs _ _ (λ z. omega arith)) (0 ∷ 1 ∷ 1 ∷ 0 ∷ 1 ∷ 1 ∷ 0 ∷ 1 ∷ 0 ∷ []) refl) refl)
    & (refl, foreign SW wired_family wired_message wired_word refl wired_encoded _ _ (0 ∷ 0 ∷ 0 ∷ 0 ∷ 0 ∷ 0 ∷ 0 ∷ 0 ∷ 1 ∷ []) 8 refl refl (lit≤ tt) (lit< tt) refl (λ z. omega arith))
    & (refl, within SB byte_family byte_message byte_word refl byte_encoded _ _ refl (lit≤ tt))
    & (refl, past SB byte_family byte_message byte_word refl byte_encoded _ _ refl refl (lit≤ tt))
    & (refl, graded_three SB byte_family byte_message byte_word refl byte_encoded (1 ∷ 0 ∷ 0 ∷ 1 ∷ 0 ∷ 0 ∷ 0 ∷ 1 ∷ 0 ∷ []) refl refl refl (lit≤ tt))
    & (refl, undecided SB byte_family byte_message byte_word refl byte_encoded (59 ∷ 2 ∷ 75 ∷ 4 ∷ 254 ∷ []) _ refl byte_rival (first_differs _ _ (λ z. omega arith)) _ _ refl refl)
    & (refl, graded_four SB byte_family byte_message byte_word refl byte_encoded (59 ∷ 2 ∷ 75 ∷ 4 ∷ 254 ∷ []) _ refl byte_rival (first_differs _ _ (λ z. omega arith)) (1 ∷ 0 ∷ 0 ∷ 1 ∷ 0 ∷ 0 ∷ 1 ∷ 0 ∷ 0 ∷ []) refl)
    & (refl, foreign SB byte_family byte_message byte_word refl byte_encoded _ _ (0 ∷ 0 ∷ 0 ∷ 0 ∷ 0 ∷ 0 ∷ 0 ∷ 0 ∷ 1 ∷ []) 8 refl refl (lit≤ tt) (lit< tt) refl (λ z. omega arith))
    & (refl, refl)
    & (refl, refl)
    & (refl, refl)
    & (refl, refl)
    & (refl, refl)
    & with_pass refl (pass_to SW wired_family ones wired_ones refl ones_wired (4 ∷ 1 ∷ 0 ∷ 255 ∷ 255 ∷ 255 ∷ 7 ∷ 2 ∷ 0 ∷ []) (0 ∷ 0 ∷ 0 ∷ 1 ∷ 1 ∷ 1 ∷ 0 ∷ 0 ∷ 0 ∷ []) refl refl _ _ _ refl refl refl)
    & (refl, refl, refl, refl, refl)
    & (refl, refl, refl, refl, refl)
    & (refl, refl, refl, refl, refl)
    & refl
    & told_cases_hold
