use Rattle.algebra.proofs.Filling.{Filled}
use Rattle.strip_words.specs.Strips.{kept_symbol}
use Rattle.strip_words.proofs.take_kept.Given as goal

abbrev pub invariant-loop-m : goal.invariant-loop-m
invariant-loop-m l = Filled (kept_symbol l.l l.c l.words l.marks) l.m l.initial.buffer l.buffer
