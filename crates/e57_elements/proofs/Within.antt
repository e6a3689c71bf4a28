-- What a limit says.
use Rattle.std.proofs.Common.{◌≡◌, ℕ, ◌^◌, ◌<◌, ◌≤◌, Bool, true, false, cond, ltb, Option, Some, None, refl, ap, ◌∙◌}
use Rattle.std.proofs.lemmas.Bool.{lt-ltb, le-ltb, ltb-false}
use Rattle.e57_elements.specs.Fault.{limit}

pub limit_2 : (n d p : ℕ) → n ≤ 64 → 64 < d → limit n d p ≡ Some 2
limit_2 n d p h k =
    ap (λ b. cond b (Some 1) (cond (ltb 64 d) (Some 2) (cond (ltb (2 ^ 20) p) (Some 3) None))) (le-ltb 64 n h)
    ∙ ap (λ b. cond b (Some 2) (cond (ltb (2 ^ 20) p) (Some 3) None)) (lt-ltb 64 d k)

pub limit_3 : (n d p : ℕ) → n ≤ 64 → d ≤ 64 → 2 ^ 20 < p → limit n d p ≡ Some 3
limit_3 n d p h k l =
    ap (λ b. cond b (Some 1) (cond (ltb 64 d) (Some 2) (cond (ltb (2 ^ 20) p) (Some 3) None))) (le-ltb 64 n h)
    ∙ ap (λ b. cond b (Some 2) (cond (ltb (2 ^ 20) p) (Some 3) None)) (le-ltb 64 d k)
    ∙ ap (λ b. cond b (Some 3) None) (lt-ltb (2 ^ 20) p l)

pub limit_none : (n d p : ℕ) → n ≤ 64 → d ≤ 64 → p ≤ 2 ^ 20 → limit n d p ≡ None
limit_none n d p h k l =
    ap (λ b. cond b (Some 1) (cond (ltb 64 d) (Some 2) (cond (ltb (2 ^ 20) p) (Some 3) None))) (le-ltb 64 n h)
    ∙ ap (λ b. cond b (Some 2) (cond (ltb (2 ^ 20) p) (Some 3) None)) (le-ltb 64 d k)
    ∙ ap (λ b. cond b (Some 3) None) (le-ltb (2 ^ 20) p l)

pub record Within (n d p : ℕ) : Type 0 where
  pub attrs : n ≤ 64
  pub depth : d ≤ 64
  pub place : p ≤ 2 ^ 20

within_by : (n d p : ℕ) (a b c : Bool) → ltb 64 n ≡ a → ltb 64 d ≡ b → ltb (2 ^ 20) p ≡ c
    → cond {A = Option ℕ} a (Some 1) (cond b (Some 2) (cond c (Some 3) None)) ≡ None → Within n d p
within_by n d p true b c f g h e = cc
within_by n d p false true c f g h e = cc
within_by n d p false false true f g h e = cc
within_by n d p false false false f g h e = record { attrs = ltb-false 64 n f; depth = ltb-false 64 d g; place = ltb-false (2 ^ 20) p h }

pub limit_within : (n d p : ℕ) → limit n d p ≡ None → Within n d p
limit_within n d p e = within_by n d p (ltb 64 n) (ltb 64 d) (ltb (2 ^ 20) p) refl refl refl e
