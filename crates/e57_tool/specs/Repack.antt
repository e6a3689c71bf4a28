-- `repack IN OUT`: the file is opened and judged, and the same content is written as another file.
use Rattle.std.specs.Prelude.{ℕ, Bool, List}
use Rattle.e57_repack.specs.Repacking.{repacking}
use Rattle.e57_tool.specs.Rewritten.{rewriting}
use Rattle.e57_tool.specs.Run.{Promise}

-- the same content in chunks of so many records, with narrow limits where they are asked for
abbrev pub repack_promise : List ℕ → List ℕ → ℕ → Bool → Promise
repack_promise name made chunk is_tight = rewriting (repacking chunk is_tight) name made
