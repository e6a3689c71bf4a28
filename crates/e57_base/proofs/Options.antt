-- Options and results by their cases.
use Rattle.std.specs.Prelude.{◌≡◌, ℕ, ◌⊎◌, Bool, true, false, if◌then◌else◌, Option, Some, None, is_some, Result, Ok, Err, IsErrAnd, MatchResult}
use Rattle.std.specs.Option.{option_or}
use Rattle.std.proofs.Common.{refl, sym, subst, inl, inr}

pub option_cases : {A : Type 0} (o : Option A) → (o ≡ None) ⊎ ((x : A) × (o ≡ Some x))
option_cases None = inl refl
option_cases (Some x) = inr (x, refl)

pub none_and_some : {A : Type 0} (o : Option A) (x : A) → o ≡ None → o ≡ Some x → ⊥
none_and_some o x none some = cc

pub absent_is_none : {A : Type 0} (o : Option A) → is_some o ≡ false → o ≡ None
absent_is_none None is = refl
absent_is_none (Some x) is = absurd (cc)

pub option_or_parts : {A : Type 0} (a b : Option A) → option_or a b ≡ None → (a ≡ None) × (b ≡ None)
option_or_parts None b none = (refl, none)
option_or_parts (Some x) b none = cc

pub option_or_assoc : {A : Type 0} (a b c : Option A) → option_or (option_or a b) c ≡ option_or a (option_or b c)
option_or_assoc None b c = refl
option_or_assoc (Some x) b c = refl

-- a test that gives none, and one that gives something
pub cond_none : (b : Bool) (q : ℕ) → ◌≡◌ {A = Option ℕ} (if b then None else Some q) None → b ≡ true
cond_none true q e = refl
cond_none false q e = absurd cc

pub cond_found : (b : Bool) (q head : ℕ) → ◌≡◌ {A = Option ℕ} (if b then None else Some q) (Some head) → (b ≡ false) × (q ≡ head)
cond_found true q head e = absurd cc
cond_found false q head e = (refl, cc)

-- what a failed step answers is the only answer
pub by_error : {T E : Type 0} (P : T → Type 0) (Q : E → Type 0) (failure : E) (result : Result T E) → IsErrAnd result (λ e. e ≡ failure) → Q failure → MatchResult result P Q
by_error P Q failure (Ok x) is q = absurd is
by_error P Q failure (Err e) is q = subst Q (sym is) q
