-- `filter IN OUT CLOUD`: the file is opened and judged, and what is asked for of one cloud is written as another file, with all else.
use Rattle.std.specs.Prelude.{ℕ, List}
use Rattle.e57_filter.specs.Asking.{FilterAsked, filtering}
use Rattle.e57_tool.specs.Rewritten.{rewriting}
use Rattle.e57_tool.specs.Run.{Promise}

-- the same content, but for the records and fields of one cloud that aren't kept
abbrev pub filter_promise : List ℕ → List ℕ → FilterAsked → Promise
filter_promise name made asked = rewriting (filtering asked) name made
