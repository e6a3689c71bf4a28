use Rattle.std.proofs.Common.{◌≡◌, drop}
use Rattle.e57_base.proofs.NamedFiles.{found_in}
use Rattle.e57_base.proofs.files.index_of.Given as goal

-- none of the files before this place has the name
abbrev pub invariant-loop-place : goal.invariant-loop-place
invariant-loop-place l = found_in l.name (drop l.place l.files) ≡ found_in l.name l.files
