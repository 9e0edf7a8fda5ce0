-- What the call for a slot's repair weights answers, as a number with the weights. Assumes nothing: these are definitions.
--   RepairWeights       a refusal number, and sixteen weights
--   weights_answer r    == the weights with the number 0, or the number of the refusal and sixteen zeros
use Rattle.std.specs.Prelude.{List, ℕ, Result, Ok, Err, replicate}
use Rattle.refusal.specs.Refusal.{number}
use Rattle.refusal.specs.declared.Refusal.{Refusal}

pub record RepairWeights : Type 0 where
  pub refusal : ℕ
  pub weights : List ℕ

abbrev pub weights_answer : Result (List ℕ) Refusal → RepairWeights
weights_answer (Ok ws) = record { refusal = 0; weights = ws }
weights_answer (Err e) = record { refusal = number e; weights = replicate 16 0 }
