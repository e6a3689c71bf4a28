-- Facts of the file that a source holds, where it is told.
use Rattle.std.specs.Prelude.{◌≡◌, ℕ, List, length, Option, Some, None, IfSome}
use Rattle.std.proofs.lemmas.Option.{same_Some}
use Rattle.std.proofs.Common.{sym, subst, ◌∙◌}

-- a fact of the file gives another
pub told_map : (P Q : List ℕ → Type 0) (held : Option (List ℕ)) → ((file : List ℕ) → P file → Q file) → IfSome held P → IfSome held Q
told_map P Q None f h = tt
told_map P Q (Some file) f h = f file h

-- two facts of the file give a third
pub told_both : (P Q R : List ℕ → Type 0) (held : Option (List ℕ)) → ((file : List ℕ) → P file → Q file → R file) → IfSome held P → IfSome held Q → IfSome held R
told_both P Q R None f p q = tt
told_both P Q R (Some file) f p q = f file p q

-- a fact of the file holds while the same file is held
pub told_here : (P : List ℕ → Type 0) (before now : Option (List ℕ)) → now ≡ before → IfSome before P → IfSome now P
told_here P None None same h = tt
told_here P None (Some now) same h = absurd cc
told_here P (Some before) None same h = tt
told_here P (Some before) (Some now) same h = let e : now ≡ before = cc in subst P (sym e) h

-- the file has the length that was told
pub length_told : (held : Option (List ℕ)) (size : Option ℕ) (n : ℕ) → IfSome held (λ file. size ≡ Some (length file)) → size ≡ Some n → IfSome held (λ file. length file ≡ n)
length_told None size n holds known = tt
length_told (Some file) size n holds known = let same : Some (length file) ≡ Some n = sym holds ∙ known in cc

-- what holds of each file
pub told_all : (P : List ℕ → Type 0) (held : Option (List ℕ)) → ((file : List ℕ) → P file) → IfSome held P
told_all P None each = tt
told_all P (Some file) each = each file

-- what holds of the file that is told
pub told_is : (P : List ℕ → Type 0) (held : Option (List ℕ)) (file : List ℕ) → held ≡ Some file → IfSome held P → P file
told_is P None file is f = absurd cc
told_is P (Some other) file is f = subst P (same_Some other file is) f
