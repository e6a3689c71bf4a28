-- Where the pieces begin: the relation and the reading function are one.
use Rattle.std.proofs.Common.{◌≡◌, ℕ, ◌≤◌, Bool, true, false, List, [], ◌∷◌, ◌++◌, length, ◌⊎◌, inl, inr, Option, Some, None, refl, sym, ap, subst, ◌∙◌, arith, append_assoc}
use Rattle.std.specs.Prelude.{codes}
use Rattle.std.specs.Option.{option_map}
use Rattle.std.specs.Str.{IsUtf8}
use lib.Utf8.{encode}
use Rattle.e57_pieces.specs.declared.piece.Attr.{Attr}
use Rattle.e57_pieces.proofs.Laws.Characters.{IsUtf8-after, in_front, IsClean-clean_len}
use Rattle.e57_pieces.proofs.Laws.Fronts.{bind_some, given_some, map_some, some_none, strip_took, strip_again}
use Rattle.e57_pieces.proofs.Laws.Attributes.{inside_took, inside_again}
use Rattle.e57_pieces.proofs.Laws.Next.{after_front, mark_angle, inside_ends, parts_at_angle, clean_whole}
use Rattle.e57_pieces.specs.Characters.{is_character, AreCharacters, IsClean}
use Rattle.e57_pieces.specs.Words.{is_space, begins_name}
use Rattle.e57_pieces.specs.Grammar.{IsInside}
use Rattle.e57_pieces.specs.Start.{strip, mark, after_mark, declares, encoding_fits, IsDeclaration, Begins, BeginsNowhere}
use Rattle.e57_pieces.specs.Reading.{◌>>=◌, given, inside_at, declaration_at, clean, unclean, body_at}
use Rattle.e57_base.proofs.Options.{option_cases}

-- ---- the declaration

-- a declaration that is read
pub record TookDeclaration (text rest : List ℕ) : Type 0 where
  pub inside : List ℕ
  pub attrs : List Attr
  pub is_inside : IsInside inside attrs (codes "?>")
  pub encoding : encoding_fits attrs ≡ true
  pub parts : text ≡ (codes "<?xml" ++ inside) ++ rest

declared : (text start inside rest : List ℕ) → text ≡ codes "<?xml" ++ start → start ≡ inside ++ rest → text ≡ (codes "<?xml" ++ inside) ++ rest
declared text start inside rest a b = rw (a, b) refl

declaration_took : (text rest : List ℕ) → declaration_at text ≡ Some rest → TookDeclaration text rest
unfolding declaration_at
declaration_took text rest e =
    let a = bind_some (strip (codes "<?xml") text) (λ (start : List ℕ). inside_at start >>= λ (inside : List Attr × List ℕ). strip (codes "?>") inside.1 >>= λ (left : List ℕ). given (encoding_fits inside.0) left) rest e in
    let b = bind_some (inside_at a.0) (λ (inside : List Attr × List ℕ). strip (codes "?>") inside.1 >>= λ (left : List ℕ). given (encoding_fits inside.0) left) rest a.2 in
    let c = bind_some (strip (codes "?>") b.0.1) (λ (left : List ℕ). given (encoding_fits b.0.0) left) rest b.2 in
    let g = given_some (encoding_fits b.0.0) c.0 rest c.2 in
    let t = inside_took a.0 b.0 (codes "?>") c.0 b.1 c.1 in
    let made : TookDeclaration text c.0 = record {
      inside = t.spelling;
      attrs = b.0.0;
      is_inside = t.holds;
      encoding = g.0;
      parts = declared text a.0 t.spelling c.0 (strip_took (codes "<?xml") text a.0 a.1) t.parts;
    } in
    subst (λ (y : List ℕ). TookDeclaration text y) g.1 made

declaration_steps : (text start close_on rest : List ℕ) (attrs : List Attr) → strip (codes "<?xml") text ≡ Some start → inside_at start ≡ Some (attrs, close_on) → strip (codes "?>") close_on ≡ Some rest → encoding_fits attrs ≡ true → declaration_at text ≡ Some rest
unfolding declaration_at
declaration_steps text start close_on rest attrs a b c d = rw (a, b, c, d) refl

question_no_space : is_space 63 ≡ false
unfolding is_space
question_no_space = refl

question_no_name : begins_name 63 ≡ false
unfolding begins_name
question_no_name = refl

declaration_again : (s rest : List ℕ) → IsDeclaration s → declaration_at (s ++ rest) ≡ Some rest
declaration_again s rest is =
    let whole : s ++ rest ≡ codes "<?xml" ++ (is.inside ++ rest) = ap (λ (t : List ℕ). t ++ rest) is.spelled ∙ append_assoc (codes "<?xml") is.inside rest in
    ap declaration_at whole ∙ declaration_steps (codes "<?xml" ++ (is.inside ++ rest)) (is.inside ++ rest) (codes "?>" ++ rest) rest is.attrs (strip_again (codes "<?xml") (is.inside ++ rest))
    (inside_again is.inside is.attrs (codes "?>") rest is.is_inside question_no_space question_no_name) (strip_again (codes "?>") rest) is.encoding

-- what is read at the front of the clean front is a declaration
pub record ReadsDeclaration (front back rest : List ℕ) : Type 0 where
  pub spelling : List ℕ
  pub is_declaration : IsDeclaration spelling
  pub parts : front ++ back ≡ spelling ++ (rest ++ back)
  pub clean_rest : IsClean rest back
  pub front_parts : front ≡ spelling ++ rest

pub declaration_read : (front back rest : List ℕ) → IsClean front back → declaration_at front ≡ Some rest → ReadsDeclaration front back rest
declaration_read front back rest clean_front e =
    let t = declaration_took front rest e in
    let ends = after_front (codes "<?xml") t.inside (codes "<?xml" ++ t.inside) refl (inside_ends t.inside t.attrs (codes "?>") t.is_inside mark_angle) in
    let two = parts_at_angle (codes "<?xml" ++ t.inside) rest ends (subst (λ (u : List ℕ). AreCharacters u) t.parts clean_front.characters) in
    record {
      spelling = codes "<?xml" ++ t.inside;
      is_declaration = record { characters = two.0; inside = t.inside; attrs = t.attrs; is_inside = t.is_inside; encoding = t.encoding; spelled = refl };
      parts = ap (λ (u : List ℕ). u ++ back) t.parts ∙ append_assoc (codes "<?xml" ++ t.inside) rest back;
      clean_rest = record { characters = two.1; forbidden = clean_front.forbidden };
      front_parts = t.parts;
    }

pub declaration_told : (front back s rest : List ℕ) → IsClean front back → front ++ back ≡ s ++ rest → IsDeclaration s → (more : List ℕ) × (declaration_at front ≡ Some more) × (rest ≡ more ++ back)
declaration_told front back s rest clean_front e is =
    let inner = in_front front back s rest clean_front e is.characters in
    (inner.0, ap declaration_at inner.1 ∙ declaration_again s inner.0 is, inner.2)

-- where none is read, none is spelled
pub declaration_none : (front back : List ℕ) → IsClean front back → declaration_at front ≡ None → (s rest : List ℕ) → front ++ back ≡ s ++ rest → IsDeclaration s → ⊥
declaration_none front back clean_front none s rest e is =
    let told = declaration_told front back s rest clean_front e is in
    some_none (declaration_at front) told.0 told.1 none

-- ---- the byte order mark

mark_characters : AreCharacters mark
unfolding encode is_character
mark_characters = record { numbers = 65279 ∷ []; each = (refl, tt); spelled = refl }

pub no_mark : (text : List ℕ) → strip mark text ≡ None → after_mark text ≡ text
no_mark text e = rw e refl

pub mark_taken : (text rest : List ℕ) → strip mark text ≡ Some rest → after_mark text ≡ rest
mark_taken text rest e = rw e refl

pub IsUtf8-after_mark : (text : List ℕ) → IsUtf8 text → IsUtf8 (after_mark text)
IsUtf8-after_mark text utf8 =
    elim (option_cases (strip mark text)) [
      | inl none ↦ subst (λ (u : List ℕ). IsUtf8 u) (sym (no_mark text none)) utf8
      | inr some ↦
          let rest : IsUtf8 some.0 = IsUtf8-after mark some.0 (subst (λ (u : List ℕ). IsUtf8 u) (strip_took mark text some.0 some.1) utf8) mark_characters in
          subst (λ (u : List ℕ). IsUtf8 u) (sym (mark_taken text some.0 some.1)) rest
    ]

body_plain : (text : List ℕ) → declares (after_mark text) ≡ false → body_at text ≡ Some (after_mark text)
unfolding body_at
body_plain text e = rw e refl

body_declared : (text : List ℕ) → declares (after_mark text) ≡ true → body_at text ≡ option_map (λ (rest : List ℕ). rest ++ unclean (after_mark text)) (declaration_at (clean (after_mark text)))
unfolding body_at
body_declared text e = rw e refl

tested : (b : Bool) → (b ≡ true) ⊎ (b ≡ false)
tested true = inl refl
tested false = inr refl

one_some : (x y : List ℕ) → Some x ≡ Some y → x ≡ y
one_some x y e = cc

pub begins_is : (text body : List ℕ) → IsUtf8 text → body_at text ≡ Some body → Begins text body
begins_is text body utf8 e =
    elim (tested (declares (after_mark text))) [
      | inr plain ↦ inl (plain, one_some body (after_mark text) (sym e ∙ body_plain text plain))
      | inl there ↦
          let m = map_some (λ (rest : List ℕ). rest ++ unclean (after_mark text)) (declaration_at (clean (after_mark text))) body (sym (body_declared text there) ∙ e) in
          let read = declaration_read (clean (after_mark text)) (unclean (after_mark text)) m.0 (IsClean-clean_len (after_mark text) (IsUtf8-after_mark text utf8)) m.1 in
          inr (there, read.spelling, read.is_declaration, sym (clean_whole (after_mark text)) ∙ read.parts ∙ ap (λ (u : List ℕ). read.spelling ++ u) m.2)
    ]

pub body_is : (text body : List ℕ) → IsUtf8 text → Begins text body → body_at text ≡ Some body
body_is text body utf8 (inl is) = body_plain text is.0 ∙ ap (λ (u : List ℕ). Some u) (sym is.1)
body_is text body utf8 (inr is) =
    let told = declaration_told (clean (after_mark text)) (unclean (after_mark text)) is.1 body (IsClean-clean_len (after_mark text) (IsUtf8-after_mark text utf8)) (clean_whole (after_mark text) ∙ is.3) is.2 in
    body_declared text is.0 ∙ ap (λ (o : Option (List ℕ)). option_map (λ (rest : List ℕ). rest ++ unclean (after_mark text)) o) told.1 ∙ ap (λ (u : List ℕ). Some u) (sym told.2)

-- the pieces begin at one place, or nowhere
pub one_body : (text a b : List ℕ) → IsUtf8 text → Begins text a → Begins text b → a ≡ b
one_body text a b utf8 is other = one_some a b (sym (body_is text a utf8 is) ∙ body_is text b utf8 other)

both_ways : (b : Bool) → b ≡ true → b ≡ false → ⊥
both_ways true e f = cc
both_ways false e f = cc

pub begins_somewhere : (text body : List ℕ) → Begins text body → BeginsNowhere text → ⊥
begins_somewhere text body (inl is) none = both_ways (declares (after_mark text)) none.declared is.0
begins_somewhere text body (inr is) none = none.no_declaration is.1 body is.3 is.2

no_some : (x : List ℕ) → None ≡ Some x → ⊥
no_some x e = cc

-- the pieces begin nowhere where no place is read
pub begins_nowhere : (text : List ℕ) → IsUtf8 text → body_at text ≡ None → BeginsNowhere text
begins_nowhere text utf8 e =
    elim (tested (declares (after_mark text))) [
      | inr plain ↦ absurd (no_some (after_mark text) (sym e ∙ body_plain text plain))
      | inl there ↦ record { declared = there; no_declaration = λ spelling rest parts is. no_some rest (sym e ∙ body_is text rest utf8 (inr (there, spelling, is, parts))) }
    ]

pub IsUtf8-body : (text body : List ℕ) → IsUtf8 text → Begins text body → IsUtf8 body
IsUtf8-body text body utf8 (inl is) = subst (λ (u : List ℕ). IsUtf8 u) (sym is.1) (IsUtf8-after_mark text utf8)
IsUtf8-body text body utf8 (inr is) = IsUtf8-after is.1 body (subst (λ (u : List ℕ). IsUtf8 u) is.3 (IsUtf8-after_mark text utf8)) is.2.characters

pub after_mark_le : (text : List ℕ) → length (after_mark text) ≤ length text
after_mark_le text =
    elim (option_cases (strip mark text)) [
      | inl none ↦ omega (arith, ap (λ (u : List ℕ). length u) (no_mark text none))
      | inr some ↦ omega (arith, ap (λ (u : List ℕ). length u) (mark_taken text some.0 some.1), ap (λ (u : List ℕ). length u) (strip_took mark text some.0 some.1))
    ]
