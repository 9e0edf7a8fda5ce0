use Prim.Native.Nat.{◌+◌}
use native.Mathlib.Omega.{arith}
use Rattle.strip_columns.proofs.Done.{Done, done_all}
use Rattle.encode_tiles.proofs.Chunks.{chunk_more}
use Rattle.encode_tiles.proofs.write_chunks.Goals as goal
use Rattle.encode_tiles.proofs.write_chunks.Goals.{After-write_groups}

-- a tile's columns are done
more : (c : After-write_groups) → let a = c.args in
    Done a.shape a.l a.messages.now (c.loop-c.c + 256) c.write_groups.new.codewords
more c =
    let a = c.args in
    let l = c.loop-c in
    chunk_more a.shape a.l a.messages.now l.c c.fold.new.coefs l.codewords _ c.requires.0 c.requires.3 c.requires.4 c.fold.ensures.3 c.write_groups.ensures.2 l.invariant

pub loop-c-preserved : goal.loop-c-preserved
loop-c-preserved c = more (goal.at.loop-c-preserved c).After-write_groups

pub returns : goal.returns
returns c =
    let a = c.args in
    let l = c.loop-c in
    done_all a.shape a.l l.c a.messages.now l.codewords (omega arith) c.requires.1 l.invariant

pub returns-2 : goal.returns-2
returns-2 c =
    let a = c.args in
    done_all a.shape a.l (c.loop-c.c + 256) a.messages.now _ (omega arith) c.requires.1 (more (goal.at.returns-2 c).After-write_groups)
