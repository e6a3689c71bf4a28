use Rattle.std.proofs.Common.{◌≡◌, ◌+◌, drop}
use Rattle.e57_pieces.specs.Characters.{clean_len}
use Rattle.e57_pieces.proofs.characters.characters_len.Given as goal

abbrev pub invariant-loop-i : goal.invariant-loop-i
invariant-loop-i l = l.i + clean_len (drop l.i l.text) ≡ clean_len l.text
