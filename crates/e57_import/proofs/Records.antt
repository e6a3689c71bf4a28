-- The rows of a text as a list: one row after another, and how many there can be.
use Rattle.std.proofs.Common.{◌≡◌, ℕ, zero, suc, ◌+◌, ◌<◌, ◌≤◌, Bool, true, false, List, [], ◌∷◌, ◌++◌, length, Option, Some, None, refl, sym, ap, subst, ◌∙◌, arith, ◌==◌, cond}
use Rattle.csv.specs.Machine.{Read, next_record, step, in_field, start_field, start_record, after_end, ends_with, is_byte, ends_at_end, is_end, fields_after, field_after, carriage_return, line_feed}
use Rattle.csv.specs.Reading.{records_from, records_next}
use Rattle.csv.specs.declared.parser.Config.{Config}
use Rattle.csv.specs.declared.parser.Terminator.{Terminator}
use Rattle.csv.specs.declared.parser.Terminator.TheVariants as term
use Rattle.csv.specs.declared.parser.Action.{Action}
use Rattle.csv.specs.declared.parser.Action.TheVariants as act
use Rattle.csv.specs.declared.parser.State.{State}
use Rattle.csv.specs.declared.parser.State.TheVariants as st
use Rattle.std.specs.Prelude.{◌&&◌}

-- ---- a row ends between two rows

-- where this action ends a row, the state is one between two rows
abbrev Ends : State × Action → Type 0
Ends x = is_end x.1 ≡ true → ends_at_end x.0 ≡ false

either : (b : Bool) (x y : State × Action) → Ends x → Ends y → Ends (cond b x y)
either true x y one other = one
either false x y one other = other

behind_end : (t : Terminator) (c : ℕ) → ends_at_end (after_end t c) ≡ false
behind_end term.CRLF c = by (c == carriage_return)
  where
    by : (b : Bool) → ends_at_end (cond b st.AfterCr st.StartRecord) ≡ false
    by true = refl
    by false = refl
behind_end (term.Any t) c = refl

ends_field : (cfg : Config) (c : ℕ) → Ends (in_field cfg c)
ends_field cfg c =
    either (c == cfg.delimiter) (st.StartField, act.EndField) (cond (ends_with cfg.terminator c) (after_end cfg.terminator c, act.EndRecord) (st.InField, act.Copy))
    (λ e. cc e)
    (either (ends_with cfg.terminator c) (after_end cfg.terminator c, act.EndRecord) (st.InField, act.Copy) (λ e. behind_end cfg.terminator c) (λ e. cc e))

ends_start : (cfg : Config) (c : ℕ) → Ends (start_field cfg c)
ends_start cfg c = either (cfg.quoting && (c == cfg.quote)) (st.InQuoted, act.Skip) (in_field cfg c) (λ e. cc e) (ends_field cfg c)

ends_row : (cfg : Config) (c : ℕ) → Ends (start_record cfg c)
ends_row cfg c =
    either (ends_with cfg.terminator c) (st.StartRecord, act.Skip) (cond (is_byte cfg.comment c) (st.InComment, act.Skip) (start_field cfg c))
    (λ e. cc e)
    (either (is_byte cfg.comment c) (st.InComment, act.Skip) (start_field cfg c) (λ e. cc e) (ends_start cfg c))

ends_step : (cfg : Config) (s : State) (c : ℕ) → Ends (step cfg s c)
ends_step cfg st.StartRecord c = ends_row cfg c
ends_step cfg st.StartField c = ends_start cfg c
ends_step cfg st.InField c = ends_field cfg c
ends_step cfg st.InQuoted c =
    either (cfg.quoting && (c == cfg.quote)) (st.AfterQuote, act.Skip) (cond (cfg.quoting && is_byte cfg.escape c) (st.InEscape, act.Skip) (st.InQuoted, act.Copy))
    (λ e. cc e)
    (either (cfg.quoting && is_byte cfg.escape c) (st.InEscape, act.Skip) (st.InQuoted, act.Copy) (λ e. cc e) (λ e. cc e))
ends_step cfg st.InEscape c = λ e. cc e
ends_step cfg st.AfterQuote c = either (cfg.quoting && cfg.double_quote && (c == cfg.quote)) (st.InQuoted, act.Copy) (in_field cfg c) (λ e. cc e) (ends_field cfg c)
ends_step cfg st.InComment c = either (c == line_feed) (st.StartRecord, act.Skip) (st.InComment, act.Skip) (λ e. cc e) (λ e. cc e)
ends_step cfg st.AfterCr c = either (c == line_feed) (st.StartRecord, act.Skip) (start_record cfg c) (λ e. cc e) (ends_row cfg c)

-- ---- a row takes a byte or more

-- what follows a row
record Follows (p : Read) (bytes : List ℕ) : Type 0 where
  between : ends_at_end p.1 ≡ false
  shorter : length p.2 ≤ length bytes
  fewer : 0 < length bytes → length p.2 < length bytes

some_same : {A : Type 0} (x y : A) → Some x ≡ Some y → x ≡ y
some_same x y e = cc e

follows : (cfg : Config) (s : State) (fields : List (List ℕ)) (field bytes : List ℕ) (p : Read) → next_record cfg s fields field bytes ≡ Some p → Follows p bytes
unfolding next_record
follows cfg s fields field [] p e = by (ends_at_end s) e
  where
    by : (b : Bool) → cond {A = Option Read} b (Some (fields ++ (field ∷ []), st.StartRecord, [])) None ≡ Some p → Follows p []
    by true f =
        let same = some_same (fields ++ (field ∷ []), st.StartRecord, []) p f in
        subst (λ (q : Read). Follows q []) same (record { between = refl; shorter = omega arith; fewer = λ some. some })
    by false f = absurd (cc f)
follows cfg s fields field (c ∷ rest) p e =
    by (is_end (step cfg s c).1) refl e (follows cfg (step cfg s c).0 (fields_after (step cfg s c).1 fields field) (field_after (step cfg s c).1 c field) rest p)
  where
    by : (b : Bool) → is_end (step cfg s c).1 ≡ b
        → cond {A = Option Read} b (Some (fields_after (step cfg s c).1 fields field, (step cfg s c).0, rest)) (next_record cfg (step cfg s c).0 (fields_after (step cfg s c).1 fields field) (field_after (step cfg s c).1 c field) rest) ≡ Some p
        → (next_record cfg (step cfg s c).0 (fields_after (step cfg s c).1 fields field) (field_after (step cfg s c).1 c field) rest ≡ Some p → Follows p rest)
        → Follows p (c ∷ rest)
    by true ends f more =
        let same = some_same (fields_after (step cfg s c).1 fields field, (step cfg s c).0, rest) p f in
        subst (λ (q : Read). Follows q (c ∷ rest)) same (record { between = ends_step cfg s c ends; shorter = omega arith; fewer = λ some. omega arith })
    by false goes f more =
        let later = more f in
        let less = later.shorter in
        record { between = later.between; shorter = omega (arith, less); fewer = λ some. omega (arith, less) }

no_row : (cfg : Config) (s : State) → ends_at_end s ≡ false → next_record cfg s [] [] [] ≡ None
unfolding next_record
no_row cfg s between = ap (λ (b : Bool). cond {A = Option Read} b (Some ([] ++ ([] ∷ []), st.StartRecord, [])) None) between

-- from a state between two rows
pub record IsNext (p : Read) (bytes : List ℕ) : Type 0 where
  pub between : ends_at_end p.1 ≡ false
  pub fewer : length p.2 < length bytes

pub next : (cfg : Config) (s : State) (bytes : List ℕ) (p : Read) → ends_at_end s ≡ false → next_record cfg s [] [] bytes ≡ Some p → IsNext p bytes
next cfg s [] p between e = absurd (cc (sym (no_row cfg s between) ∙ e))
next cfg s (c ∷ rest) p between e = let f = follows cfg s [] [] (c ∷ rest) p e in record { between = f.between; fewer = f.fewer (omega arith) }

-- ---- the list of all rows

-- a bound is enough that is above the number of bytes
enough : (cfg : Config) (n m : ℕ) (s : State) (bytes : List ℕ) → ends_at_end s ≡ false → length bytes < n → length bytes < m → records_from cfg n s bytes ≡ records_from cfg m s bytes
unfolding records_from
enough cfg zero m s bytes between few less = absurd (omega arith)
enough cfg (suc n) zero s bytes between few less = absurd (omega arith)
enough cfg (suc n) (suc m) s bytes between few less = by (next_record cfg s [] [] bytes) refl (λ p. enough cfg n m p.1 p.2)
  where
    by : (o : Option Read) → next_record cfg s [] [] bytes ≡ o
        → ((p : Read) → ends_at_end p.1 ≡ false → length p.2 < n → length p.2 < m → records_from cfg n p.1 p.2 ≡ records_from cfg m p.1 p.2)
        → records_next (records_from cfg n) o ≡ records_next (records_from cfg m) o
    by None e later = refl
    by (Some p) e later =
        let f = next cfg s bytes p between e in
        let shorter = f.fewer in
        ap (λ (rows : List (List (List ℕ))). p.0 ∷ rows) (later p f.between (omega (arith, shorter)) (omega (arith, shorter)))

-- one row, and those behind it
pub records_more : (cfg : Config) (s : State) (bytes : List ℕ) (p : Read) → ends_at_end s ≡ false → next_record cfg s [] [] bytes ≡ Some p
    → records_from cfg (length bytes + 1) s bytes ≡ p.0 ∷ records_from cfg (length p.2 + 1) p.1 p.2
unfolding records_from
records_more cfg s bytes p between e =
    let f = next cfg s bytes p between e in
    let shorter = f.fewer in
    let long : length bytes + 1 ≡ suc (length bytes) = omega arith in
    rw long (ap (records_next (records_from cfg (length bytes))) e ∙ ap (λ rows. p.0 ∷ rows) (enough cfg (length bytes) (length p.2 + 1) p.1 p.2 f.between (omega (arith, shorter)) (omega arith)))

-- no row more
pub records_end : (cfg : Config) (s : State) (bytes : List ℕ) → next_record cfg s [] [] bytes ≡ None → records_from cfg (length bytes + 1) s bytes ≡ []
unfolding records_from
records_end cfg s bytes e =
    let long : length bytes + 1 ≡ suc (length bytes) = omega arith in
    rw long (ap (records_next (records_from cfg (length bytes))) e)

-- there are no more rows than bytes
pub records_few : (cfg : Config) (n : ℕ) (s : State) (bytes : List ℕ) → ends_at_end s ≡ false → length (records_from cfg n s bytes) ≤ length bytes
unfolding records_from
records_few cfg zero s bytes between = omega arith
records_few cfg (suc n) s bytes between = by (next_record cfg s [] [] bytes) refl (λ p. records_few cfg n p.1 p.2)
  where
    by : (o : Option Read) → next_record cfg s [] [] bytes ≡ o
        → ((p : Read) → ends_at_end p.1 ≡ false → length (records_from cfg n p.1 p.2) ≤ length p.2)
        → length (records_next (records_from cfg n) o) ≤ length bytes
    by None e later = omega arith
    by (Some p) e later =
        let f = next cfg s bytes p between e in
        let shorter = f.fewer in
        let rest = later p f.between in
        omega (arith, shorter, rest)
