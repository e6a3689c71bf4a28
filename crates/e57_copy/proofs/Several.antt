-- Laws of items that are put one after another.
use Rattle.std.specs.Prelude.{map, ◌==◌, if◌then◌else◌}
use Rattle.std.proofs.Common.{◌≡◌, ℕ, ◌+◌, ◌-◌, ◌*◌, ◌/◌, ◌%◌, ◌<◌, List, [], ◌∷◌, ◌++◌, length, replicate, refl, sym, ap, subst, ◌∙◌, arith, append_assoc, length-append}
use Rattle.e57_base.specs.Target.{TargetView}
use Rattle.e57_page_out.specs.Sealed.{pages_for}
use Rattle.e57_page_out.specs.Sequences.{Puts}
use Rattle.e57_page_out.specs.Writing.{Writing, IsBeingWritten, most_bytes}
use Rattle.e57_page_out.proofs.Sequences.{puts_both, puts_nothing}
use Rattle.e57_layout.specs.Values.{ItemKind, Value}
use Rattle.e57_layout.specs.Written.{section_spelled}
use Rattle.e57_nodes.specs.Items.{StatedItem, stated_cloud, stated_blob}
use Rattle.e57_verdict.specs.Things.{Body, records_body, bytes_body}
use Rattle.e57_plain.specs.Valid.{kinds_in, AreBodies}
use Rattle.e57_plain.specs.Written.{whole_pages, body_section, section_offset, sections_from, offsets_from}
use Rattle.e57_plain.proofs.Laws.Forms.{Form, cloud_form, form_of, AreFormBodies, bodies-forms, forms-bodies}
use Rattle.e57_plain.proofs.Laws.Pages.{whole_pages-is, length-whole_pages}
use Rattle.e57_plain.proofs.Laws.Sections.{length-sections}
use Rattle.e57_file_out.specs.InARow.{next_page}
use Rattle.e57_file_out.proofs.InARow.{sections_more, offsets_more}
use Rattle.e57_copy.specs.Items.{PutsItem}
use Rattle.e57_copy.specs.Several.{PutsItems, PassesFirst}

sections-none : (n p : ℕ) (bodies : List Body) → sections_from n p [] bodies ≡ []
unfolding sections_from
sections-none n p bodies = refl

offsets-none : (n p : ℕ) (bodies : List Body) → offsets_from n p [] bodies ≡ []
unfolding offsets_from
offsets-none n p bodies = refl

next-is : (n p : ℕ) (items : List StatedItem) (bodies : List Body) → next_page n p items bodies ≡ p + length (sections_from n p items bodies) / 1020
unfolding next_page
next-is n p items bodies = refl

-- ---- where they begin

-- no item was put
pub puts-none : {T : Type 0} (view : T → TargetView) (n : ℕ) (out : Writing T) → IsBeingWritten view out → PutsItems view n [] [] out [] out
puts-none view n out state = record {
  begin = sym (offsets-none n (out.size / 1020) []);
  wrote = subst (λ (xs : List ℕ). Puts view out xs out) (sym (sections-none n (out.size / 1020) [])) (puts_nothing view out state);
}

-- ---- one item more

-- the page that follows is that on which the file ends
pub ended : {T : Type 0} (view : T → TargetView) (n : ℕ) (items : List StatedItem) (bodies : List Body) (a b : Writing T) (offsets : List ℕ) → a.size % 1020 ≡ 0 → PutsItems view n items bodies a offsets b
    → (b.size % 1020 ≡ 0) × (b.size / 1020 ≡ next_page n (a.size / 1020) items bodies) × (b.size ≡ 1020 * next_page n (a.size / 1020) items bodies)
ended view n items bodies a b offsets whole puts =
    let size = puts.wrote.size in
    let rows = length-sections n (a.size / 1020) items bodies in
    let next = next-is n (a.size / 1020) items bodies in
    (omega (arith, whole, size, rows), omega (arith, whole, size, rows, next), omega (arith, whole, size, rows, next))

-- one item more was put
pub puts-more : {T : Type 0} (view : T → TargetView) (n : ℕ) (items : List StatedItem) (bodies : List Body) (item : StatedItem) (body : Body) (a b c : Writing T) (offsets : List ℕ) (offset : ℕ)
    → a.size % 1020 ≡ 0 → length items ≡ length bodies → PutsItems view n items bodies a offsets b → PutsItem view n item body b offset c
    → PutsItems view n (items ++ item ∷ []) (bodies ++ body ∷ []) a (offsets ++ offset ∷ []) c
puts-more view n items bodies item body a b c offsets offset whole same first next =
    let p = a.size / 1020 in
    let q = next_page n p items bodies in
    let now = ended view n items bodies a b offsets whole first in
    let section = ap (λ (s : ℕ). body_section n s item body) now.2 in
    record {
      begin =
          ap (λ (xs : List ℕ). xs ++ offset ∷ []) first.begin
          ∙ ap (λ k. offsets_from n p items bodies ++ k ∷ [])
          (next.begins ∙ ap (λ k. section_offset k (body_section n b.size item body)) now.1 ∙ ap (section_offset q) section)
          ∙ sym (offsets_more n p items bodies item body same);
      wrote =
          subst (λ (xs : List ℕ). Puts view a xs c)
          (ap (λ (s : List ℕ). sections_from n p items bodies ++ whole_pages s) section ∙ sym (sections_more n p items bodies item body same))
          (puts_both view a b c (sections_from n p items bodies) (whole_pages (body_section n b.size item body)) first.wrote next.wrote);
    }

-- ---- an item that is too much

-- sections behind which others stand
sections-front : (n p : ℕ) (items : List StatedItem) (bodies : List Body) (item : StatedItem) (body : Body) (after : List StatedItem) (rest : List Body) → length items ≡ length bodies
    → (behind : List ℕ) × (sections_from n p (items ++ item ∷ after) (bodies ++ body ∷ rest)
    ≡ (sections_from n p items bodies ++ body_section n (1020 * next_page n p items bodies) item body) ++ behind)
unfolding sections_from next_page
sections-front n p [] [] item body after rest same =
    let first = body_section n (1020 * p) item body in
    let zero : p + 0 / 1020 ≡ p = omega arith in
    let more = sections_from n (p + pages_for (length first)) after rest in
    let pad = replicate (1020 * pages_for (length first) - length first) 0 in (
      pad ++ more,
      ap (λ (xs : List ℕ). xs ++ more) (whole_pages-is first) ∙ append_assoc first pad more ∙ sym (ap (λ k. body_section n (1020 * k) item body ++ (pad ++ more)) zero),
    )
sections-front n p [] (b ∷ bodies) item body after rest same = absurd (omega arith)
sections-front n p (i ∷ items) [] item body after rest same = absurd (omega arith)
sections-front n p (i ∷ items) (b ∷ bodies) item body after rest same =
    let first = body_section n (1020 * p) i b in
    let p' = p + pages_for (length first) in
    let later = sections-front n p' items bodies item body after rest (omega arith) in
    let front = sections_from n p' items bodies in
    let size = length-whole_first first front in
    let pages : p' + length front / 1020 ≡ p + length (whole_pages first ++ front) / 1020 = omega arith in
    let q = p + length (whole_pages first ++ front) / 1020 in (
      later.0,
      ap (λ (xs : List ℕ). whole_pages first ++ xs) later.1
          ∙ ap (λ k. whole_pages first ++ ((front ++ body_section n (1020 * k) item body) ++ later.0)) pages
          ∙ sym (append_assoc (whole_pages first) (front ++ body_section n (1020 * q) item body) later.0)
          ∙ ap (λ (xs : List ℕ). xs ++ later.0) (sym (append_assoc (whole_pages first) front (body_section n (1020 * q) item body))),
    )
  where
    length-whole_first : (xs ys : List ℕ) → length (whole_pages xs ++ ys) ≡ 1020 * pages_for (length xs) + length ys
    length-whole_first xs ys = length-append (whole_pages xs) ys ∙ ap (λ k. k + length ys) (length-whole_pages xs)

-- the first items were put, and with the section of the next one the file would pass its last page
pub passes-more : {T : Type 0} (view : T → TargetView) (n : ℕ) (items : List StatedItem) (bodies : List Body) (item : StatedItem) (body : Body) (after : List StatedItem) (rest : List Body) (a b : Writing T) (offsets : List ℕ)
    → a.size % 1020 ≡ 0 → length items ≡ length bodies → PutsItems view n items bodies a offsets b → most_bytes < b.size + length (body_section n b.size item body)
    → PassesFirst n a.size (items ++ item ∷ after) (bodies ++ body ∷ rest)
passes-more view n items bodies item body after rest a b offsets whole same puts past =
    let p = a.size / 1020 in
    let now = ended view n items bodies a b offsets whole puts in
    let front = sections-front n p items bodies item body after rest same in
    let sections = sections_from n p items bodies in
    let section = body_section n (1020 * next_page n p items bodies) item body in
    let known : length (body_section n b.size item body) ≡ length section = ap (λ k. length (body_section n k item body)) now.2 in
    let both = length-append sections section in
    let long = puts.wrote.size in
    record {
      before = sections ++ section;
      after = front.0;
      cut = front.1;
      past = omega (arith, long, known, both, past);
    }

-- ---- items of the same forms: as many records of the same kinds, or as many bytes

same-heads : (form other : Form) (forms others : List Form) → ◌≡◌ {A = List Form} (form ∷ forms) (other ∷ others) → (form ≡ other) × (forms ≡ others)
same-heads form other forms others same = (cc, cc)

same-cloud : (a b : ℕ) (kinds others : List ItemKind) → cloud_form a kinds ≡ cloud_form b others → (a ≡ b) × (kinds ≡ others)
same-cloud a b kinds others same = (cc, cc)

abbrev cloud_section : ℕ → ℕ → ℕ → List ItemKind → List (List Value) → List ℕ
cloud_section n q count kinds columns = if count == 0 then [] else section_spelled q kinds n count columns

section-form : (n q : ℕ) (item other : StatedItem) (body : Body) → form_of item ≡ form_of other → body_section n q item body ≡ body_section n q other body
unfolding body_section
section-form n q (stated_cloud i count fields) (stated_cloud j records rows) (records_body columns) same =
    let are = same-cloud count records (kinds_in fields) (kinds_in rows) same in
    ap (λ k. cloud_section n q k (kinds_in fields) columns) are.0 ∙ ap (λ (kinds : List ItemKind). cloud_section n q records kinds columns) are.1
section-form n q (stated_cloud i count fields) (stated_cloud j records rows) (bytes_body bytes) same = refl
section-form n q (stated_cloud i count fields) (stated_blob j size) body same = absurd cc
section-form n q (stated_blob i size) (stated_cloud j records rows) body same = absurd cc
section-form n q (stated_blob i size) (stated_blob j length) (records_body columns) same = refl
section-form n q (stated_blob i size) (stated_blob j length) (bytes_body bytes) same = refl

pub sections-forms : (n p : ℕ) (items others : List StatedItem) (bodies : List Body) → map form_of items ≡ map form_of others → sections_from n p items bodies ≡ sections_from n p others bodies
unfolding sections_from
sections-forms n p [] [] bodies same = refl
sections-forms n p [] (other ∷ others) bodies same = absurd cc
sections-forms n p (item ∷ items) [] bodies same = absurd cc
sections-forms n p (item ∷ items) (other ∷ others) [] same = refl
sections-forms n p (item ∷ items) (other ∷ others) (body ∷ bodies) same =
    let are = same-heads (form_of item) (form_of other) (map form_of items) (map form_of others) same in
    let section = body_section n (1020 * p) other body in
    ap (λ (xs : List ℕ). whole_pages xs ++ sections_from n (p + pages_for (length xs)) items bodies) (section-form n (1020 * p) item other body are.0)
    ∙ ap (λ (xs : List ℕ). whole_pages section ++ xs) (sections-forms n (p + pages_for (length section)) items others bodies are.1)

pub offsets-forms : (n p : ℕ) (items others : List StatedItem) (bodies : List Body) → map form_of items ≡ map form_of others → offsets_from n p items bodies ≡ offsets_from n p others bodies
unfolding offsets_from
offsets-forms n p [] [] bodies same = refl
offsets-forms n p [] (other ∷ others) bodies same = absurd cc
offsets-forms n p (item ∷ items) [] bodies same = absurd cc
offsets-forms n p (item ∷ items) (other ∷ others) [] same = refl
offsets-forms n p (item ∷ items) (other ∷ others) (body ∷ bodies) same =
    let are = same-heads (form_of item) (form_of other) (map form_of items) (map form_of others) same in
    let section = body_section n (1020 * p) other body in
    ap (λ (xs : List ℕ). section_offset p xs ∷ offsets_from n (p + pages_for (length xs)) items bodies) (section-form n (1020 * p) item other body are.0)
    ∙ ap (λ (xs : List ℕ). section_offset p section ∷ xs) (offsets-forms n (p + pages_for (length section)) items others bodies are.1)

pub puts-same : {T : Type 0} (view : T → TargetView) (n : ℕ) (items others : List StatedItem) (bodies : List Body) (a b : Writing T) (offsets : List ℕ)
    → map form_of items ≡ map form_of others → PutsItems view n items bodies a offsets b → PutsItems view n others bodies a offsets b
puts-same view n items others bodies a b offsets same puts = record {
  begin = puts.begin ∙ offsets-forms n (a.size / 1020) items others bodies same;
  wrote = subst (λ (xs : List ℕ). Puts view a xs b) (sections-forms n (a.size / 1020) items others bodies same) puts.wrote;
}

pub passes-same : (n size : ℕ) (items others : List StatedItem) (bodies : List Body) → map form_of items ≡ map form_of others → PassesFirst n size items bodies → PassesFirst n size others bodies
passes-same n size items others bodies same passes = record {
  before = passes.before;
  after = passes.after;
  cut = sym (sections-forms n (size / 1020) items others bodies same) ∙ passes.cut;
  past = passes.past;
}

pub bodies-same : (items others : List StatedItem) (bodies : List Body) → map form_of items ≡ map form_of others → AreBodies items bodies → AreBodies others bodies
bodies-same items others bodies same are = forms-bodies others bodies (subst (λ (forms : List Form). AreFormBodies forms bodies) same (bodies-forms items bodies are))
