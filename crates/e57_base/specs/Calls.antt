-- The calls of an object in memory: they are counted from 0, and some of them are to fail.
use Rattle.std.specs.Prelude.{ℕ, Bool, ◌==◌, if◌then◌else◌, List, [], ◌∷◌, ◌++◌}
use Rattle.std.specs.List.{list_any}
use Rattle.e57_base.specs.Count.{raised}

-- the calls so far, and those that are to fail
pub record CallList : Type 0 where
  -- the number of the next call
  pub next : ℕ
  -- the numbers of the calls that are to fail
  pub failing : List ℕ

-- no call so far, and none that is to fail
abbrev pub no_calls : CallList
no_calls = record { next = 0; failing = [] }

-- the next call is to fail
abbrev pub is_failing : CallList → Bool
is_failing calls = list_any (λ call. call == calls.next) calls.failing

-- after one more call
abbrev pub called : CallList → CallList
called calls = record calls { next = raised calls.next }

-- this call is to fail too
abbrev pub failing_at : ℕ → CallList → CallList
failing_at call calls = record calls { failing = calls.failing ++ call ∷ [] }

-- a count, raised where this is so
abbrev pub raised_if : Bool → ℕ → ℕ
raised_if so n = if so then raised n else n
