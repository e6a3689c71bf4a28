-- What stands behind the whole pages of a file.
use Rattle.std.proofs.Common.{◌≡◌, ℕ, ◌-◌, ◌*◌, ◌/◌, List, ◌++◌, length, drop, replicate, ap, subst, ◌∙◌}
use Rattle.std.proofs.lemmas.List.{drop-replicate}
use Rattle.e57_base.specs.Source.{rest_of}

-- written over 1024 zeros
pub over_zeros : (file rest out : List ℕ) → rest ≡ drop (length file / 1024 * 1024) file → out ≡ rest ++ drop (length rest) (replicate 1024 0) → out ≡ rest_of file
over_zeros file rest out is written =
    subst (λ (bytes : List ℕ). out ≡ bytes ++ replicate (1024 - length bytes) 0) is (written ∙ ap (λ (zeros : List ℕ). rest ++ zeros) (drop-replicate (length rest) 1024 0))
