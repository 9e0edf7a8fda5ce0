-- All statements of specs/Grades.antt hold, by computing. Assumes nothing.
--   grades_tried    each of them
use mathlib.Core.Path.{refl}
use Rattle.algebra.specs.Sequence.{tabulate_from, tabulate, count, every}
use Rattle.field.specs.Field.{q, γ, plus, times, power}
use Rattle.code.specs.Search.{any, any_list}
use Rattle.code.specs.Shape.{ceiling, size, groups, room, missing, whole, wired, group, member, first, step, slot_at, point_at, point}
use Rattle.code.specs.Basis.{exponent, whole_basis, basis, degree, most_shared}
use Rattle.code.specs.Codeword.{some_message, value_from, value, symbol, encoded, shared, guarantee}
use Rattle.code.specs.Decoding.{lost, agrees, confused, undecided}
use Rattle.code.specs.Erasure.{lost_number, group_losses, stands, grade}
use Rattle.exhaustive.specs.Grades.{PairLost, GroupLost, GradesTried}

pub grades_tried : GradesTried
unfolding PairLost GroupLost any any_list some_message confused undecided grade shared agrees lost lost_number group_losses stands tabulate_from tabulate count every q γ times power ceiling size groups room missing whole wired group member first step slot_at point_at point encoded symbol value value_from basis whole_basis exponent degree most_shared guarantee plus
grades_tried = record { pair_lost = refl; group_lost = refl }
