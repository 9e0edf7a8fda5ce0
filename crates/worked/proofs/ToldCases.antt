-- The cases of codes with k below r hold: the codewords by computing, the searches by them, or by trying every message of a small code.
-- Assumes nothing.
--   K, KW, R           such codes over bytes, by either wiring, and the smallest over thirteen
--   told_cases_hold   the table of specs/Case.antt from told_cases on
use mathlib.Core.Path.{◌≡◌, refl, ◌∙◌}
use mathlib.Core.Bool.{false}
use mathlib.Core.List.{[], ◌∷◌}
use native.Mathlib.Omega.{arith}
use lib.Dec.{lit<, lit≤}
use Rattle.algebra.specs.Sequence.{tabulate_from, tabulate, count, every, all_below, Each}
use Rattle.field.specs.Field.{q, γ, xor_from, plus, minus, doubled, times_from, times, power, inverse}
use Rattle.field.specs.Polynomial.{dotted}
use Rattle.code.specs.declared.Shape.{Shape}
use Rattle.code.specs.Question.{ask}
use Rattle.code.specs.Search.{any, any_list}
use Rattle.code.specs.Shape.{ceiling, size, groups, room, missing, whole, wired, group, member, first, step, slot_at, members, point_at, point, others_from, others, mates, mates_number}
use Rattle.code.specs.Basis.{exponent, whole_basis, constant, good, vanish_from, vanishing, lead, short_basis, basis, degree, most_shared}
use Rattle.code.specs.Codeword.{is_message, some_message, value_from, value, symbol, encoded, guarantee}
use Rattle.code.specs.Decoding.{lost, agrees}
use Rattle.code.specs.Erasure.{lost_number, group_losses, stands}
use Rattle.code.specs.Repair.{weight_over, weights_over, restored, repaired, symbols_of}
use Rattle.code.specs.Held.{has, held}
use Rattle.code.specs.Pass.{kept_from, kept_places, sources, mendable, repairs, mends, mend, passed, marks_after, mended}
use Rattle.code.specs.Family.{code_of, single, field_known, r_fits, n_fits, least, k_fits, wiring_fits, code_refusal}
use Rattle.code.specs.Laws.{Family}
use Rattle.code.specs.Promise.{Accepted}
use Rattle.code.proofs.Accepted.{plain_of}
use Rattle.worked.specs.Case.{passes, Holds, straight, told_cases}
use Rattle.worked.proofs.Quick.{raised, place_point, inverted, weighed, weights_by, repaired_by, drawn, drawn_is}
use Rattle.worked.proofs.Deciding.{covered, holds, foreign, near_none}
use Rattle.worked.proofs.ShortCases.{◌&◌, short_cases_hold}

abbrev pub K : Shape
K = single (code_of 1 4 10 3 0)

abbrev pub KW : Shape
KW = single (code_of 1 4 10 3 1)

abbrev pub R : Shape
R = single (code_of 0 2 3 1 0)

-- a codeword is one symbol nine times
abbrev P : Shape
P = single (code_of 0 2 9 1 0)

-- its last group is short
abbrev Q : Shape
Q = single (code_of 0 3 6 2 0)

k_accepted : Accepted (code_of 1 4 10 3 0)
unfolding code_refusal ask field_known r_fits n_fits least k_fits wiring_fits ceiling size groups room missing whole q
k_accepted = refl

v_accepted : Accepted (code_of 1 4 10 3 1)
unfolding code_refusal ask field_known r_fits n_fits least k_fits wiring_fits ceiling size groups room missing whole q
v_accepted = refl

r_accepted : Accepted (code_of 0 2 3 1 0)
unfolding code_refusal ask field_known r_fits n_fits least k_fits wiring_fits ceiling size groups room missing whole q
r_accepted = refl

p_accepted : Accepted (code_of 0 2 9 1 0)
unfolding code_refusal ask field_known r_fits n_fits least k_fits wiring_fits ceiling size groups room missing whole q
p_accepted = refl

q_accepted : Accepted (code_of 0 3 6 2 0)
unfolding code_refusal ask field_known r_fits n_fits least k_fits wiring_fits ceiling size groups room missing whole q
q_accepted = refl

pub k_family : Family K
k_family = (plain_of (code_of 1 4 10 3 0) k_accepted).family

pub v_family : Family KW
v_family = (plain_of (code_of 1 4 10 3 1) v_accepted).family

pub r_family : Family R
r_family = (plain_of (code_of 0 2 3 1 0) r_accepted).family

p_family : Family P
p_family = (plain_of (code_of 0 2 9 1 0) p_accepted).family

q_family : Family Q
q_family = (plain_of (code_of 0 3 6 2 0) q_accepted).family

r_encoded : encoded R (5 ∷ []) ≡ (5 ∷ 5 ∷ 5 ∷ [])
unfolding tabulate_from tabulate q γ times power ceiling size groups room missing whole wired group member point_at point encoded symbol value value_from basis whole_basis exponent plus
r_encoded = refl

p_encoded : encoded P (5 ∷ []) ≡ (5 ∷ 5 ∷ 5 ∷ 5 ∷ 5 ∷ 5 ∷ 5 ∷ 5 ∷ 5 ∷ [])
unfolding tabulate_from tabulate q γ times power ceiling size groups room missing whole wired group member point_at point encoded symbol value value_from basis whole_basis exponent plus
p_encoded = refl

k_encoded : encoded K (1 ∷ 2 ∷ 3 ∷ []) ≡ (0 ∷ 217 ∷ 243 ∷ 38 ∷ 13 ∷ 9 ∷ 62 ∷ 249 ∷ 11 ∷ 196 ∷ [])
unfolding drawn place_point raised tabulate_from tabulate q γ times ceiling size groups room missing whole wired group member value value_from basis whole_basis exponent power plus xor_from doubled times_from
k_encoded = drawn_is K (1 ∷ 2 ∷ 3 ∷ []) ∙ refl

v_encoded : encoded KW (1 ∷ 2 ∷ 3 ∷ []) ≡ (0 ∷ 9 ∷ 217 ∷ 62 ∷ 243 ∷ 249 ∷ 38 ∷ 11 ∷ 13 ∷ 196 ∷ [])
unfolding drawn place_point raised tabulate_from tabulate q γ times ceiling size groups room missing whole wired group member value value_from basis whole_basis exponent power plus xor_from doubled times_from
v_encoded = drawn_is KW (1 ∷ 2 ∷ 3 ∷ []) ∙ refl

q_encoded : encoded Q (0 ∷ 1 ∷ []) ≡ (12 ∷ 6 ∷ 2 ∷ 4 ∷ 7 ∷ 4 ∷ [])
unfolding tabulate_from tabulate q γ times power ceiling size groups room missing whole wired group member point_at point encoded symbol value value_from basis short_basis constant good vanish_from vanishing lead plus minus
q_encoded = refl

-- no message of 169
q_none : held Q (1 ∷ 2 ∷ 3 ∷ []) straight ≡ false
unfolding held has some_message any_list any every tabulate_from tabulate q γ times power ceiling size groups room missing whole wired group member point_at point encoded symbol value value_from basis short_basis constant good vanish_from vanishing lead plus minus
q_none = refl

-- the local pass, with all its searches
left_and_mended : Holds (passes (code_of 0 2 9 1 0) (255 ∷ 5 ∷ 7 ∷ 4 ∷ 255 ∷ 4 ∷ 255 ∷ 255 ∷ 6 ∷ []) (1 ∷ 0 ∷ 0 ∷ 0 ∷ 1 ∷ 0 ∷ 1 ∷ 1 ∷ 0 ∷ []) (255 ∷ 5 ∷ 7 ∷ 4 ∷ 4 ∷ 4 ∷ 255 ∷ 255 ∷ 6 ∷ []) (1 ∷ 0 ∷ 0 ∷ 0 ∷ 0 ∷ 0 ∷ 1 ∷ 1 ∷ 0 ∷ []) 1)
unfolding ask field_known r_fits n_fits least k_fits wiring_fits code_refusal held has some_message any_list any count every tabulate_from tabulate q γ times plus minus power inverse dotted ceiling size groups room missing whole wired group member first step slot_at point_at point exponent whole_basis basis encoded symbol value value_from lost group_losses stands weight_over weights_over restored symbols_of kept_from kept_places sources mendable repairs mends mend passed marks_after mended
left_and_mended = (refl, refl, refl, refl)

pub told_cases_hold : Each Holds told_cases
unfolding covered agrees lost lost_number guarantee exponent degree most_shared place_point raised inverted weighed tabulate_from tabulate count every all_below q γ xor_from plus minus doubled times_from times power inverse dotted ask ceiling size groups room missing whole wired field_known r_fits n_fits least k_fits wiring_fits code_refusal group member first step slot_at members point_at point is_message others_from others mates mates_number weight_over weights_over restored repaired
told_cases_hold =
    (refl, lit< tt, refl, refl, holds R r_family (5 ∷ []) (5 ∷ 5 ∷ 5 ∷ []) refl r_encoded (1 ∷ 2 ∷ []) (5 ∷ 5 ∷ []) refl, refl)
    & (refl, lit< tt, refl, refl, holds K k_family (1 ∷ 2 ∷ 3 ∷ []) _ refl k_encoded (5 ∷ 6 ∷ 8 ∷ 9 ∷ []) (9 ∷ 62 ∷ 11 ∷ 196 ∷ []) refl, repaired_by (code_of 1 4 10 3 0) 7 (9 ∷ 62 ∷ 11 ∷ 196 ∷ []) (weights_by (code_of 1 4 10 3 0) refl 7 (lit< tt)) ∙ refl)
    & (refl, lit< tt, refl, refl, holds KW v_family (1 ∷ 2 ∷ 3 ∷ []) _ refl v_encoded (1 ∷ 3 ∷ 5 ∷ 9 ∷ []) (9 ∷ 62 ∷ 249 ∷ 196 ∷ []) refl, repaired_by (code_of 1 4 10 3 1) 7 (9 ∷ 62 ∷ 249 ∷ 196 ∷ []) (weights_by (code_of 1 4 10 3 1) refl 7 (lit< tt)) ∙ refl)
    & (refl, lit< tt, refl, refl, holds Q q_family (0 ∷ 1 ∷ []) _ refl q_encoded (1 ∷ 2 ∷ 3 ∷ []) (6 ∷ 2 ∷ 4 ∷ []) refl, refl)
    & (refl, lit< tt, refl, refl, q_none)
    & left_and_mended
    & (refl, near_none P p_family _ _ refl 9 (λ z. omega arith) (foreign P p_family (5 ∷ []) _ refl p_encoded _ _ (1 ∷ 0 ∷ 1 ∷ 1 ∷ 1 ∷ 1 ∷ 1 ∷ 1 ∷ 1 ∷ []) 2 refl refl (lit≤ tt) (lit< tt) refl (λ z. omega arith)))
    & short_cases_hold
