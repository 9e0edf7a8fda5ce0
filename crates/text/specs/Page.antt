-- What a page is after some bytes were put. Assumes nothing: these are definitions.
--   Wrote bs p q    == the page p has become q, with the bytes bs behind what was put before, in the same text
use Rattle.std.specs.Prelude.{◌≡◌, List, ℕ, length}
use Rattle.text.specs.Text.{Puts}
use Rattle.text.specs.declared.Page.{Page}

pub record Wrote (bs : List ℕ) (p q : Page) : Type 0 where
  pub same_text : q.text.ghost_name ≡ p.text.ghost_name
  pub same_size : length q.text.now ≡ length p.text.now
  pub puts : Puts bs p.text.now p.end q.text.now q.end
