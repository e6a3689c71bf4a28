-- A file that is written anew with chunks of another length, and with its own limits of integer fields, or narrow ones.
use Rattle.std.specs.Prelude.{◌≡◌, ℕ, Bool, if◌then◌else◌}
use Rattle.e57_plain.specs.Tight.{tight}
use Rattle.e57_copy.specs.Rewriting.{Rewriting}

-- The new file has the same content, or that with narrow limits. Nothing is asked for that may not be there.
abbrev pub repacking : ℕ → Bool → Rewriting
repacking chunk is_tight = record { chunk = chunk; gives = λ old new. new ≡ (if is_tight then tight old else old); is_short = λ old why. ⊥ }
