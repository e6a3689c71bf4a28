-- Values, attributes and what stands in a tag after its name: what is read is spelled so, and what is spelled so is read.
use Rattle.std.proofs.Common.{◌≡◌, ℕ, zero, suc, ◌<◌, ◌≤◌, Bool, true, false, eqb, ◌||◌, not, List, [], ◌∷◌, ◌++◌, length, ◌⊎◌, inl, inr, Option, Some, None, refl, sym, ap, subst, ◌∙◌, arith, append_assoc}
use Rattle.std.specs.Prelude.{codes}
use Rattle.std.proofs.lemmas.Bool.{eqb-true, eq-eqb}
use Rattle.std.proofs.lemmas.List.{length-append}
use Rattle.e57_pieces.specs.declared.piece.Attr.{Attr}
use Rattle.e57_pieces.proofs.Laws.Characters.{or_true, false_from, not_both}
use Rattle.e57_pieces.proofs.Laws.Fronts.{Took, bind_some, given_some, strip_took, strip_again, BeginsOutside, run_after, run_each, run_again, space_took, space_again, no_space, name_took, name_again, no_name}
use Rattle.e57_pieces.proofs.Laws.References.{NoPart, text_took, text_again, no_reference}
use Rattle.e57_pieces.specs.Words.{is_space, begins_name, goes_on_name, is_plain, Each, IsName}
use Rattle.e57_pieces.specs.Grammar.{Means, IsAttr, AreAttrs, differ, IsInside}
use Rattle.e57_pieces.specs.Start.{strip}
use Rattle.e57_pieces.specs.Reading.{◌>>=◌, run, after, name_at, space_at, text_at, quote_at, value_at, attr_at, attrs_then, attrs_at, inside_at}

-- ---- which bytes begin which words

-- white space is one of four bytes
pub spaces : (P : ℕ → Type 0) (b : ℕ) → is_space b ≡ true → P 32 → P 9 → P 13 → P 10 → P b
unfolding is_space
spaces P b e p32 p9 p13 p10 =
    elim (or_true (eqb b 32 || eqb b 9 || eqb b 13) (eqb b 10) e) [
      | inr is ↦ subst P (sym (eqb-true b 10 is)) p10
      | inl e3 ↦ elim (or_true (eqb b 32 || eqb b 9) (eqb b 13) e3) [
        | inr is ↦ subst P (sym (eqb-true b 13 is)) p13
        | inl e2 ↦ elim (or_true (eqb b 32) (eqb b 9) e2) [
          | inr is ↦ subst P (sym (eqb-true b 9 is)) p9
          | inl is ↦ subst P (sym (eqb-true b 32 is)) p32
        ]
      ]
    ]

space_begins_none : (b : ℕ) → is_space b ≡ true → begins_name b ≡ false
unfolding begins_name
space_begins_none b e = spaces (λ n. begins_name n ≡ false) b e refl refl refl refl

pub space_goes_on_none : (b : ℕ) → is_space b ≡ true → goes_on_name b ≡ false
unfolding goes_on_name begins_name
space_goes_on_none b e = spaces (λ n. goes_on_name n ≡ false) b e refl refl refl refl

pub name_no_space : (b : ℕ) → begins_name b ≡ true → is_space b ≡ false
name_no_space b e = false_from (is_space b) (λ s. not_both (begins_name b) e (space_begins_none b s))

pub name_stops_space : (name rest : List ℕ) → IsName name → BeginsOutside is_space (name ++ rest)
name_stops_space [] rest is = absurd is
name_stops_space (b ∷ bs) rest is = name_no_space b is.0

pub space_stops_name : (space rest : List ℕ) → Each is_space space → BeginsOutside goes_on_name rest → BeginsOutside goes_on_name (space ++ rest)
space_stops_name [] rest each stops = stops
space_stops_name (b ∷ bs) rest each stops = space_goes_on_none b each.0

sign_no_space : is_space 61 ≡ false
unfolding is_space
sign_no_space = refl

sign_no_name : goes_on_name 61 ≡ false
unfolding goes_on_name begins_name
sign_no_name = refl

-- ---- values

abbrev IsQuote : ℕ → Type 0
IsQuote q = (q ≡ 34) ⊎ (q ≡ 39)

quote_no_space : (q : ℕ) → IsQuote q → is_space q ≡ false
unfolding is_space
quote_no_space q (inl is) = ap is_space is
quote_no_space q (inr is) = ap is_space is

quote_no_mark : (q : ℕ) → IsQuote q → eqb q 38 ≡ false
quote_no_mark q (inl is) = ap (λ (n : ℕ). eqb n 38) is
quote_no_mark q (inr is) = ap (λ (n : ℕ). eqb n 38) is

quote_not_plain : (q : ℕ) → is_plain q q ≡ false
unfolding is_plain
quote_not_plain q = rw (eq-eqb q q refl) (ended (eqb q 60 || eqb q 38)) where
  ended : (b : Bool) → not (b || true) ≡ false
  ended true = refl
  ended false = refl

quote_took : (text : List ℕ) (x : ℕ × List ℕ) → quote_at text ≡ Some x → IsQuote x.0 × (text ≡ x.0 ∷ x.1)
unfolding quote_at
quote_took [] x e = absurd cc
quote_took (b ∷ bs) x e =
    let g = given_some (eqb b 34 || eqb b 39) (b, bs) x e in
    subst (λ (y : ℕ × List ℕ). IsQuote y.0 × (b ∷ bs ≡ y.0 ∷ y.1)) g.1 (elim (or_true (eqb b 34) (eqb b 39) g.0) [ inl is ↦ inl (eqb-true b 34 is) | inr is ↦ inr (eqb-true b 39 is) ], refl)

quote_again : (q : ℕ) (rest : List ℕ) → IsQuote q → quote_at (q ∷ rest) ≡ Some (q, rest)
unfolding quote_at
quote_again q rest (inl is) = rw is refl
quote_again q rest (inr is) = rw is refl

record TookValue (text meaning rest : List ℕ) : Type 0 where
  pub quote : ℕ
  pub value : List ℕ
  pub quotes : IsQuote quote
  pub means : Means (is_plain quote) value meaning
  pub parts : text ≡ quote ∷ (value ++ (quote ∷ rest))

value_took : (text : List ℕ) (x : List ℕ × List ℕ) → value_at text ≡ Some x → TookValue text x.0 x.1
unfolding value_at
value_took text x e =
    let a = bind_some (quote_at text) (λ (quote : ℕ × List ℕ). strip (quote.0 ∷ []) (text_at quote.0 quote.1).1 >>= λ (rest : List ℕ). Some ((text_at quote.0 quote.1).0, rest)) x e in
    let b = bind_some (strip (a.0.0 ∷ []) (text_at a.0.0 a.0.1).1) (λ (rest : List ℕ). Some ((text_at a.0.0 a.0.1).0, rest)) x a.2 in
    let q = quote_took text a.0 a.1 in
    let t = text_took a.0.0 a.0.1 in
    let made : TookValue text (text_at a.0.0 a.0.1).0 b.0 = record {
      quote = a.0.0;
      value = t.spelling;
      quotes = q.0;
      means = t.holds;
      parts = q.1 ∙ ap (λ (u : List ℕ). a.0.0 ∷ u) (t.parts ∙ ap (λ (u : List ℕ). t.spelling ++ u) (strip_took (a.0.0 ∷ []) (text_at a.0.0 a.0.1).1 b.0 b.1));
    } in
    subst (λ (y : List ℕ × List ℕ). TookValue text y.0 y.1) (one_some ((text_at a.0.0 a.0.1).0, b.0) x b.2) made where
      one_some : (x y : List ℕ × List ℕ) → Some x ≡ Some y → x ≡ y
      one_some x y e = cc

value_again : (q : ℕ) (value meaning rest : List ℕ) → IsQuote q → Means (is_plain q) value meaning → value_at (q ∷ (value ++ (q ∷ rest))) ≡ Some (meaning, rest)
unfolding value_at
value_again q value meaning rest is means =
    let ends : NoPart (is_plain q) (q ∷ rest) = record { stops = quote_not_plain q; none = no_reference (q ∷ rest) (quote_no_mark q is) } in
    let text : text_at q (value ++ (q ∷ rest)) ≡ (meaning, q ∷ rest) = text_again q value meaning (q ∷ rest) means ends in
    let close : strip (q ∷ []) (q ∷ rest) ≡ Some rest = strip_again (q ∷ []) rest in
    rw (quote_again q (value ++ (q ∷ rest)) is, text, close) refl

-- ---- one attribute

spread : (before name left right value : List ℕ) (q : ℕ) (rest : List ℕ) → (before ++ (name ++ (left ++ (codes "=" ++ (right ++ (q ∷ value ++ q ∷ [])))))) ++ rest ≡ before ++ (name ++ (left ++ (61 ∷ (right ++ (q ∷ (value ++ (q ∷ rest)))))))
spread before name left right value q rest = simp append_assoc

chained : (text before start name left_on left sign_on sign right value_on last : List ℕ) → text ≡ before ++ start → start ≡ name ++ left_on → left_on ≡ left ++ sign_on → sign_on ≡ codes "=" ++ sign → sign ≡ right ++ value_on → value_on ≡ last
    → text ≡ before ++ (name ++ (left ++ (61 ∷ (right ++ last))))
chained text before start name left_on left sign_on sign right value_on last a b c d e f = rw (a, b, c, d, e, f) refl

pub attr_took : (text : List ℕ) (x : Attr × List ℕ) → attr_at text ≡ Some x → Took text x.1 (λ s. IsAttr s x.0)
unfolding attr_at
attr_took text x e =
    let a = bind_some (space_at text) (λ (start : List ℕ). name_at start >>= λ (name : List ℕ × List ℕ). strip (codes "=") (after is_space name.1) >>= λ (sign : List ℕ). value_at (after is_space sign) >>= λ (value : List ℕ × List ℕ). Some (record { name = name.0; value = value.0 }, value.1)) x e in
    let b = bind_some (name_at a.0) (λ (name : List ℕ × List ℕ). strip (codes "=") (after is_space name.1) >>= λ (sign : List ℕ). value_at (after is_space sign) >>= λ (value : List ℕ × List ℕ). Some (record { name = name.0; value = value.0 }, value.1)) x a.2 in
    let c = bind_some (strip (codes "=") (after is_space b.0.1)) (λ (sign : List ℕ). value_at (after is_space sign) >>= λ (value : List ℕ × List ℕ). Some (record { name = b.0.0; value = value.0 }, value.1)) x b.2 in
    let d = bind_some (value_at (after is_space c.0)) (λ (value : List ℕ × List ℕ). Some (record { name = b.0.0; value = value.0 }, value.1)) x c.2 in
    let s = space_took text a.0 a.1 in
    let n = name_took a.0 b.0 b.1 in
    let v = value_took (after is_space c.0) d.0 d.1 in
    let chain = chained text s.spelling a.0 b.0.0 b.0.1 (run is_space b.0.1) (after is_space b.0.1) c.0 (run is_space c.0) (after is_space c.0) (v.quote ∷ (v.value ++ (v.quote ∷ d.0.1)))
    s.parts n.1 (run_after is_space b.0.1) (strip_took (codes "=") (after is_space b.0.1) c.0 c.1) (run_after is_space c.0) v.parts in
    let made : Took text d.0.1 (λ s. IsAttr s (record { name = b.0.0; value = d.0.0 })) = record {
      spelling = s.spelling ++ (b.0.0 ++ (run is_space b.0.1 ++ (codes "=" ++ (run is_space c.0 ++ (v.quote ∷ v.value ++ v.quote ∷ [])))));
      holds = record {
        before = s.spelling;
        left = run is_space b.0.1;
        right = run is_space c.0;
        quote = v.quote;
        value = v.value;
        some_space = s.holds.0;
        spaces = (s.holds.1, run_each is_space b.0.1, run_each is_space c.0);
        name = n.0;
        quotes = v.quotes;
        means = v.means;
        spelled = refl;
      };
      parts = chain ∙ sym (spread s.spelling b.0.0 (run is_space b.0.1) (run is_space c.0) v.value v.quote d.0.1);
    } in
    subst (λ (y : Attr × List ℕ). Took text y.1 (λ s. IsAttr s y.0)) (one_some (record { name = b.0.0; value = d.0.0 }, d.0.1) x d.2) made where
      one_some : (x y : Attr × List ℕ) → Some x ≡ Some y → x ≡ y
      one_some x y e = cc

attr_steps : (text start name left_on sign_on sign value_on value rest : List ℕ) → space_at text ≡ Some start → name_at start ≡ Some (name, left_on) → after is_space left_on ≡ sign_on → strip (codes "=") sign_on ≡ Some sign → after is_space sign ≡ value_on → value_at value_on ≡ Some (value, rest)
    → attr_at text ≡ Some (record { name = name; value = value }, rest)
unfolding attr_at
attr_steps text start name left_on sign_on sign value_on value rest a b c d e f = rw (a, b, c, d, e, f) refl

pub attr_again : (s : List ℕ) (attr : Attr) (rest : List ℕ) → IsAttr s attr → attr_at (s ++ rest) ≡ Some (attr, rest)
attr_again s attr rest is =
    ap (λ (t : List ℕ). attr_at (t ++ rest)) is.spelled ∙ ap attr_at (spread is.before attr.name is.left is.right is.value is.quote rest)
    ∙ attr_steps (is.before ++ (attr.name ++ (is.left ++ (61 ∷ (is.right ++ (is.quote ∷ (is.value ++ (is.quote ∷ rest)))))))) (attr.name ++ (is.left ++ (61 ∷ (is.right ++ (is.quote ∷ (is.value ++ (is.quote ∷ rest))))))) attr.name
    (is.left ++ (61 ∷ (is.right ++ (is.quote ∷ (is.value ++ (is.quote ∷ rest)))))) (61 ∷ (is.right ++ (is.quote ∷ (is.value ++ (is.quote ∷ rest))))) (is.right ++ (is.quote ∷ (is.value ++ (is.quote ∷ rest)))) (is.quote ∷ (is.value ++ (is.quote ∷ rest))) attr.value rest
    (space_again is.before _ is.some_space is.spaces.0 (name_stops_space attr.name _ is.name))
    (name_again attr.name _ is.name (space_stops_name is.left _ is.spaces.1 sign_no_name))
    (run_again is_space is.left _ is.spaces.1 sign_no_space).1
    (strip_again (codes "=") _)
    (run_again is_space is.right _ is.spaces.2 (quote_no_space is.quote is.quotes)).1
    (value_again is.quote is.value attr.value rest is.quotes is.means)

-- ---- attributes one after another

then_took : (goes_on : List ℕ → List Attr × List ℕ) (bytes : List ℕ) (o : Option (Attr × List ℕ)) → attr_at bytes ≡ o → ((text : List ℕ) → Took text (goes_on text).1 (λ s. AreAttrs s (goes_on text).0)) → Took bytes (attrs_then bytes goes_on o).1 (λ s. AreAttrs s (attrs_then bytes goes_on o).0)
then_took goes_on bytes None e more = record { spelling = []; holds = refl; parts = refl }
then_took goes_on bytes (Some x) e more =
    let t = attr_took bytes x e in
    let later = more x.1 in
    record {
      spelling = t.spelling ++ later.spelling;
      holds = (t.spelling, later.spelling, refl, t.holds, later.holds);
      parts = t.parts ∙ ap (λ (u : List ℕ). t.spelling ++ u) later.parts ∙ sym (append_assoc t.spelling later.spelling (goes_on x.1).1);
    }

pub attrs_took : (n : ℕ) (bytes : List ℕ) → Took bytes (attrs_at n bytes).1 (λ s. AreAttrs s (attrs_at n bytes).0)
unfolding attrs_at
attrs_took zero bytes = record { spelling = []; holds = refl; parts = refl }
attrs_took (suc n) bytes = then_took (λ (rest : List ℕ). attrs_at n rest) bytes (attr_at bytes) refl (λ text. attrs_took n text)

attr_long : (s : List ℕ) (attr : Attr) → IsAttr s attr → 0 < length s
attr_long s attr is = omega (arith, is.some_space, ap (λ (t : List ℕ). length t) is.spelled, length-append is.before (attr.name ++ (is.left ++ (codes "=" ++ (is.right ++ (is.quote ∷ is.value ++ is.quote ∷ []))))))

attrs_long : (s : List ℕ) (attrs : List Attr) → AreAttrs s attrs → length attrs ≤ length s
attrs_long s [] are = omega arith
attrs_long s (attr ∷ attrs) are =
    omega (arith, attr_long are.0 attr are.3, attrs_long are.1 attrs are.4, ap (λ (t : List ℕ). length t) are.2, length-append are.0 are.1)

attrs_next : (n : ℕ) (text rest : List ℕ) (attr : Attr) → attr_at text ≡ Some (attr, rest) → attrs_at (suc n) text ≡ (attr ∷ (attrs_at n rest).0, (attrs_at n rest).1)
unfolding attrs_at
attrs_next n text rest attr e = rw e refl

attrs_none : (n : ℕ) (rest : List ℕ) → attr_at rest ≡ None → attrs_at n rest ≡ ([], rest)
unfolding attrs_at
attrs_none zero rest e = refl
attrs_none (suc n) rest e = rw e refl

pub attrs_again : (attrs : List Attr) (s rest : List ℕ) (n : ℕ) → AreAttrs s attrs → attr_at rest ≡ None → length attrs ≤ n → attrs_at n (s ++ rest) ≡ (attrs, rest)
attrs_again [] s rest n are ends le = ap (λ (t : List ℕ). attrs_at n (t ++ rest)) are ∙ attrs_none n rest ends
attrs_again (attr ∷ attrs) s rest zero are ends le = absurd (omega arith)
attrs_again (attr ∷ attrs) s rest (suc n) are ends le =
    let whole : s ++ rest ≡ are.0 ++ (are.1 ++ rest) = ap (λ (t : List ℕ). t ++ rest) are.2 ∙ append_assoc are.0 are.1 rest in
    ap (attrs_at (suc n)) whole ∙ attrs_next n (are.0 ++ (are.1 ++ rest)) (are.1 ++ rest) attr (attr_again are.0 attr (are.1 ++ rest) are.3)
    ∙ ap (λ (x : List Attr × List ℕ). (attr ∷ x.0, x.1)) (attrs_again attrs are.1 rest n are.4 ends (omega arith))

-- ---- the inside of a tag

pub inside_took : (text : List ℕ) (x : List Attr × List ℕ) (close rest : List ℕ) → inside_at text ≡ Some x → strip close x.1 ≡ Some rest → Took text rest (λ s. IsInside s x.0 close)
unfolding inside_at
inside_took text x close rest e f =
    let g = given_some (differ (attrs_at (length text) text).0) ((attrs_at (length text) text).0, after is_space (attrs_at (length text) text).1) x e in
    let t = attrs_took (length text) text in
    let closed : strip close (after is_space (attrs_at (length text) text).1) ≡ Some rest = subst (λ (y : List Attr × List ℕ). strip close y.1 ≡ Some rest) (sym g.1) f in
    let made : Took text rest (λ s. IsInside s (attrs_at (length text) text).0 close) = record {
      spelling = t.spelling ++ (run is_space (attrs_at (length text) text).1 ++ close);
      holds = record { front = t.spelling; space = run is_space (attrs_at (length text) text).1; attributes = t.holds; names_differ = g.0; white = run_each is_space (attrs_at (length text) text).1; spelled = refl };
      parts = gathered text t.spelling (attrs_at (length text) text).1 (run is_space (attrs_at (length text) text).1) (after is_space (attrs_at (length text) text).1) close rest t.parts (run_after is_space (attrs_at (length text) text).1) (strip_took close (after is_space (attrs_at (length text) text).1) rest closed);
    } in
    subst (λ (y : List Attr × List ℕ). Took text rest (λ s. IsInside s y.0 close)) g.1 made where
      gathered : (text front left space end_on close rest : List ℕ) → text ≡ front ++ left → left ≡ space ++ end_on → end_on ≡ close ++ rest → text ≡ (front ++ (space ++ close)) ++ rest
      gathered text front left space end_on close rest a b c = a ∙ ap (λ (t : List ℕ). front ++ t) (b ∙ ap (λ (t : List ℕ). space ++ t) c) ∙ sym (append_assoc front (space ++ close) rest ∙ ap (λ (t : List ℕ). front ++ t) (append_assoc space close rest))

no_attr : (space rest : List ℕ) → Each is_space space → BeginsOutside is_space rest → BeginsOutside begins_name rest → attr_at (space ++ rest) ≡ None
unfolding attr_at
no_attr [] rest each stops ends = rw (no_space rest stops) refl
no_attr (b ∷ bs) rest each stops ends =
    let start : space_at (b ∷ (bs ++ rest)) ≡ Some rest = space_again (b ∷ bs) rest (omega arith) each stops in
    rw (start, no_name rest ends) refl

inside_steps : (text space_on rest : List ℕ) (attrs : List Attr) → attrs_at (length text) text ≡ (attrs, space_on) → differ attrs ≡ true → after is_space space_on ≡ rest → inside_at text ≡ Some (attrs, rest)
unfolding inside_at
inside_steps text space_on rest attrs a b c = rw (a, b, c) refl

pub inside_again : (s : List ℕ) (attrs : List Attr) (close rest : List ℕ) → IsInside s attrs close → BeginsOutside is_space (close ++ rest) → BeginsOutside begins_name (close ++ rest) → inside_at (s ++ rest) ≡ Some (attrs, close ++ rest)
inside_again s attrs close rest is stops ends =
    let whole : s ++ rest ≡ is.front ++ (is.space ++ (close ++ rest)) = ap (λ (t : List ℕ). t ++ rest) is.spelled ∙ append_assoc is.front (is.space ++ close) rest ∙ ap (λ (t : List ℕ). is.front ++ t) (append_assoc is.space close rest) in
    let long : length attrs ≤ length (is.front ++ (is.space ++ (close ++ rest))) = omega (arith, attrs_long is.front attrs is.attributes, length-append is.front (is.space ++ (close ++ rest))) in
    ap inside_at whole ∙ inside_steps (is.front ++ (is.space ++ (close ++ rest))) (is.space ++ (close ++ rest)) (close ++ rest) attrs
    (attrs_again attrs is.front (is.space ++ (close ++ rest)) (length (is.front ++ (is.space ++ (close ++ rest)))) is.attributes (no_attr is.space (close ++ rest) is.white stops ends) long)
    is.names_differ (run_again is_space is.space (close ++ rest) is.white stops).1
