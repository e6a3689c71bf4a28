-- One item more that is put behind others, with what is kept of one cloud, or one that is not.
use Rattle.std.proofs.Common.{◌≡◌, ℕ, suc, ◌+◌, ◌*◌, ◌/◌, ◌%◌, ◌<◌, ◌≤◌, Bool, true, false, List, [], ◌∷◌, ◌++◌, length, None, refl, sym, ap, subst, ◌∙◌, arith, append_assoc, length-append}
use Rattle.e57_base.proofs.CountLaws.{rose_before}
use Rattle.e57_base.proofs.Told.{told_map, told_both, told_here, told_all}
use Rattle.e57_base.specs.Source.{SourceView}
use Rattle.e57_base.specs.Target.{TargetView}
use Rattle.e57_base.specs.declared.fault.AskFault.TheVariants as of_ask
use Rattle.e57_base.specs.declared.fault.RunFault.{RunFault}
use Rattle.e57_base.specs.declared.fault.RunFault.TheVariants.{Refused, Source, Out, Memory, Ask}
use Rattle.e57_layout.specs.Values.{Value}
use Rattle.e57_layout.specs.declared.field.Field.{Field}
use Rattle.e57_page_out.specs.Sealed.{pages_for}
use Rattle.e57_page_out.specs.Writing.{Writing, IsBeingWritten, most_bytes}
use Rattle.e57_page_out.proofs.Sequences.{leaves_later, leaves_still}
use Rattle.e57_nodes.specs.Items.{StatedItem, stated_cloud, stated_blob}
use Rattle.e57_nodes.specs.Typed.{max_records}
use Rattle.e57_tree.specs.declared.items.Cloud.{Cloud as StatedCloud}
use Rattle.e57_verdict.specs.Things.{Body, Thing, records_body, bytes_body, body_of, thing_fault}
use Rattle.e57_verdict.specs.Verdict.{all_pages_fault}
use Rattle.e57_plain.specs.Kept.{Selection, chosen, cloud_columns, kept_columns, kept_count, with_columns}
use Rattle.e57_plain.specs.Valid.{IsBody, AreBodies}
use Rattle.e57_plain.specs.Written.{body_section, page_behind, sections_from, whole_pages}
use Rattle.e57_plain.proofs.Laws.Pages.{length-whole_pages}
use Rattle.e57_file_out.specs.InARow.{next_page}
use Rattle.e57_file_out.proofs.InARow.{sections_more}
use Rattle.e57_chunk_out.specs.declared.cloud_out.Written.{Written}
use Rattle.e57_check.proofs.AskingLaws.{asks_where_none, asks_where_on}
use Rattle.e57_copy.specs.Items.{CopiesItem, IsItemCause, LosesItem}
use Rattle.e57_copy.specs.Sections.{thing_of}
use Rattle.e57_copy.specs.Several.{bodies_in, PutsItems}
use Rattle.e57_copy.proofs.Lists.{sound_parts, bodies_more, bodies_count, map_append}
use Rattle.e57_copy.proofs.Several.{ended, puts-more, puts-none}
use Rattle.e57_filter.specs.Filtering.{kept_items, kept_bodies, kept_number, AreRight, FillsFile, FiltersItems, IsFilteringCause, IsKept, KeepsCloud, LosesItems}
use Rattle.e57_filter.specs.KeptSection.{cloud_records, kept_length, AreKept, IsFilterCause, LosesFiltered}
use Rattle.e57_filter.proofs.KeptLists.{is_here, new_item, new_body, kept-more, kept-one, kept-before, columns-more, columns-one, columns-before, columns-here, columns-same, front-items, front-bodies}

-- ---- what is right of all is right of the first ones and of one more

abbrev FrontRight : List StatedItem → List Thing → StatedItem → Thing → List ℕ → Type 0
FrontRight items things x thing file = AreRight items things file × (thing_fault file thing ≡ None) × IsBody x (body_of file thing)

front-bodies-are : (items : List StatedItem) (bodies : List Body) (x : StatedItem) (body : Body) (after : List StatedItem) (rest : List Body) → length items ≡ length bodies
    → AreBodies (items ++ x ∷ after) (bodies ++ body ∷ rest) → AreBodies items bodies × IsBody x body
front-bodies-are [] [] x body after rest same are = (tt, are.0)
front-bodies-are [] (b ∷ bodies) x body after rest same are = absurd (omega (arith, same))
front-bodies-are (i ∷ items) [] x body after rest same are = absurd (omega (arith, same))
front-bodies-are (i ∷ items) (b ∷ bodies) x body after rest same are = let later = front-bodies-are items bodies x body after rest (omega (arith, same)) are.1 in ((are.0, later.0), later.1)

all-bodies : (file : List ℕ) (things : List Thing) (thing : Thing) (rest : List Thing) → bodies_in file (things ++ thing ∷ rest) ≡ bodies_in file things ++ body_of file thing ∷ bodies_in file rest
all-bodies file things thing rest = map_append (body_of file) things (thing ∷ rest)

length-bodies : (file : List ℕ) (things : List Thing) → length (bodies_in file things) ≡ length things
length-bodies file [] = refl
length-bodies file (t ∷ ts) = ap suc (length-bodies file ts)

front-right : (file : List ℕ) (items : List StatedItem) (things : List Thing) (x : StatedItem) (thing : Thing) (after : List StatedItem) (rest : List Thing) → length items ≡ length things
    → AreRight (items ++ x ∷ after) (things ++ thing ∷ rest) file → FrontRight items things x thing file
front-right file items things x thing after rest same right =
    let sound = sound_parts file things thing rest right.sound in
    let bodies = front-bodies-are items (bodies_in file things) x (body_of file thing) after (bodies_in file rest) (same ∙ sym (length-bodies file things))
    (subst (λ (bs : List Body). AreBodies (items ++ x ∷ after) bs) (all-bodies file things thing rest) right.bodies) in
    (record { sound = sound.0; bodies = bodies.0 }, sound.1, bodies.1)

-- ---- where they begin

pub filters-none : {T : Type 0} (view : T → TargetView) (n count : ℕ) (selection : Selection) (source : SourceView) (out : Writing T) → IsBeingWritten view out → FiltersItems view n [] [] selection count source source out 0 [] out
filters-none view n count selection source out state = record {
  source = asks_where_none (λ file. Unit {0}) count source;
  few = omega arith;
  bodies = [];
  are_bodies = tt;
  of_file = told_all (λ file. AreRight [] [] file → IsKept selection [] 0 []) source.held (λ file right. record { count = refl; are = refl });
  puts = puts-none view n out state;
}

-- ---- one item more, as it is

new-other : (flags : List Bool) (number : ℕ) (x : StatedItem) → new_item false flags number x ≡ x
new-other flags number (stated_cloud n count fields) = refl
new-other flags number (stated_blob n size) = refl

body-other : (columns : List (List Value)) (body : Body) → new_body false columns body ≡ body
body-other columns (records_body old) = refl
body-other columns (bytes_body bytes) = refl

module _ {T : Type 0} (view : T → TargetView) (n count : ℕ) (selection : Selection) (items : List StatedItem) (things : List Thing) (old mid new : SourceView) (a b c : Writing T) (number : ℕ) (offsets : List ℕ)
    (whole : a.size % 1020 ≡ 0) (same : length items ≡ length things) (first : FiltersItems view n items things selection count old mid a number offsets b) where
  as_many : length (kept_items selection number items) ≡ length first.bodies
  as_many = bodies_count (kept_items selection number items) first.bodies first.are_bodies

  module _ (x : StatedItem) (thing : Thing) where
    here : Bool
    here = is_here selection.cloud items x

    -- the bodies of the file, with one more
    other-bodies : (file : List ℕ) (body : Body) → is_here selection.cloud items x ≡ false → FrontRight items things x thing file → IsKept selection (bodies_in file things) number first.bodies → body ≡ body_of file thing
        → IsKept selection (bodies_in file (things ++ thing ∷ [])) number (first.bodies ++ body ∷ [])
    other-bodies file body other right is so =
        let k = selection.cloud in
        let bodies = bodies_in file things in
        let last = body_of file thing in
        let all = all-bodies file things thing [] in
        let columns : cloud_columns k (bodies_in file (things ++ thing ∷ [])) ≡ cloud_columns k bodies = ap (cloud_columns k) all ∙ columns-same k items bodies x last right.0.bodies right.2 other in
        let kept = kept_columns selection (cloud_columns k bodies) in
        record {
          count = is.count ∙ ap (kept_count selection) (sym columns);
          are =
              ap (λ (bs : List Body). bs ++ body ∷ []) is.are ∙ ap (λ (one : Body). with_columns k kept bodies ++ one ∷ []) (so ∙ sym (body-other kept last))
              ∙ ap (λ (h : Bool). with_columns k kept bodies ++ new_body h kept last ∷ []) (sym other)
              ∙ sym (columns-one k kept items bodies x last right.0.bodies right.2)
              ∙ ap (with_columns k kept) (sym all)
              ∙ ap (λ (cs : List (List Value)). with_columns k (kept_columns selection cs) (bodies_in file (things ++ thing ∷ []))) (sym columns);
        }

    pub filters-other : (offset : ℕ) → is_here selection.cloud items x ≡ false → CopiesItem view n x thing count mid new b offset c
        → FiltersItems view n (items ++ x ∷ []) (things ++ thing ∷ []) selection count old new a number (offsets ++ offset ∷ []) c
    filters-other offset other next =
        let k = selection.cloud in
        let more : kept_items selection number items ++ x ∷ [] ≡ kept_items selection number (items ++ x ∷ []) =
        ap (λ (y : StatedItem). kept_items selection number items ++ y ∷ []) (sym (new-other selection.fields number x))
        ∙ ap (λ (h : Bool). kept_items selection number items ++ new_item h selection.fields number x ∷ []) (sym other)
        ∙ sym (kept-one k selection.fields number items x) in
        record {
          source = asks_where_on (λ file. Unit {0}) count old mid new first.source next.source;
          few = first.few;
          bodies = first.bodies ++ next.body ∷ [];
          are_bodies = subst (λ (xs : List StatedItem). AreBodies xs (first.bodies ++ next.body ∷ [])) more (bodies_more (kept_items selection number items) first.bodies x next.body first.are_bodies next.is_body);
          of_file =
              told_both (λ file. AreRight items things file → IsKept selection (bodies_in file things) number first.bodies) (λ file. thing_fault file thing ≡ None → next.body ≡ body_of file thing)
              (λ file. AreRight (items ++ x ∷ []) (things ++ thing ∷ []) file → IsKept selection (bodies_in file (things ++ thing ∷ [])) number (first.bodies ++ next.body ∷ [])) old.held
              (λ file one two right.
              let parts = front-right file items things x thing [] [] same right in
              other-bodies file next.body other parts (one parts.0) (two parts.1))
              first.of_file
              (told_here (λ file. thing_fault file thing ≡ None → next.body ≡ body_of file thing) mid.held old.held (sym first.source.asks.same.held) next.of_file);
          puts =
              subst (λ (xs : List StatedItem). PutsItems view n xs (first.bodies ++ next.body ∷ []) a (offsets ++ offset ∷ []) c) more
              (puts-more view n (kept_items selection number items) first.bodies x next.body a b c offsets offset whole as_many first.puts next.puts);
        }

  -- ---- the cloud, of which some is kept

  module _ (node : ℕ) (cloud : StatedCloud) (fields : List Field) where
    abbrev x_of : StatedItem
    x_of = stated_cloud node cloud.count fields

    abbrev thing_is : Thing
    thing_is = thing_of cloud fields

    kept-bodies : (file : List ℕ) (written : Written) (columns : List (List Value)) → is_here selection.cloud items x_of ≡ true → FrontRight items things x_of thing_is file → IsKept selection (bodies_in file things) number first.bodies
        → AreKept selection (cloud_records cloud fields file) written.count columns → IsKept selection (bodies_in file (things ++ thing_is ∷ [])) written.count (first.bodies ++ records_body columns ∷ [])
    kept-bodies file written columns here_is right is so =
        let k = selection.cloud in
        let bodies = bodies_in file things in
        let records = cloud_records cloud fields file in
        let all = all-bodies file things thing_is [] in
        let found : cloud_columns k (bodies_in file (things ++ thing_is ∷ [])) ≡ records = ap (cloud_columns k) all ∙ columns-here k items bodies x_of records [] right.0.bodies here_is in
        let kept = kept_columns selection records in
        let front : first.bodies ≡ with_columns k kept bodies =
        is.are ∙ columns-before k (kept_columns selection (cloud_columns k bodies)) items bodies x_of right.0.bodies here_is ∙ sym (columns-before k kept items bodies x_of right.0.bodies here_is) in
        record {
          count = so.count ∙ ap (kept_count selection) (sym found);
          are =
              ap (λ (bs : List Body). bs ++ records_body columns ∷ []) front
              ∙ ap (λ (cs : List (List Value)). with_columns k kept bodies ++ records_body cs ∷ []) so.columns
              ∙ ap (λ (h : Bool). with_columns k kept bodies ++ new_body h kept (records_body records) ∷ []) (sym here_is)
              ∙ sym (columns-one k kept items bodies x_of (records_body records) right.0.bodies right.2)
              ∙ ap (with_columns k kept) (sym all)
              ∙ ap (λ (cs : List (List Value)). with_columns k (kept_columns selection cs) (bodies_in file (things ++ thing_is ∷ []))) (sym found);
        }

    pub filters-cloud : (written : Written) → is_here selection.cloud items x_of ≡ true → cloud.count ≤ max_records → KeepsCloud view n cloud fields selection count mid new b written c
        → FiltersItems view n (items ++ x_of ∷ []) (things ++ thing_is ∷ []) selection count old new a written.count (offsets ++ written.place ∷ []) c
    filters-cloud written here_is most next =
        let k = selection.cloud in
        let y = stated_cloud node written.count (chosen selection.fields fields) in
        let body = records_body next.columns in
        let before : kept_items selection number items ≡ kept_items selection written.count items =
        kept-before k selection.fields number items x_of here_is ∙ sym (kept-before k selection.fields written.count items x_of here_is) in
        let more : kept_items selection number items ++ y ∷ [] ≡ kept_items selection written.count (items ++ x_of ∷ []) =
        ap (λ (xs : List StatedItem). xs ++ y ∷ []) before
        ∙ ap (λ (h : Bool). kept_items selection written.count items ++ new_item h selection.fields written.count x_of ∷ []) (sym here_is)
        ∙ sym (kept-one k selection.fields written.count items x_of) in
        record {
          source = asks_where_on (λ file. Unit {0}) count old mid new first.source next.source;
          few = let less = next.few in omega (arith, less, most);
          bodies = first.bodies ++ body ∷ [];
          are_bodies = subst (λ (xs : List StatedItem). AreBodies xs (first.bodies ++ body ∷ [])) more (bodies_more (kept_items selection number items) first.bodies y body first.are_bodies next.are);
          of_file =
              told_both (λ file. AreRight items things file → IsKept selection (bodies_in file things) number first.bodies)
              (λ file. thing_fault file thing_is ≡ None → AreKept selection (cloud_records cloud fields file) written.count next.columns)
              (λ file. AreRight (items ++ x_of ∷ []) (things ++ thing_is ∷ []) file → IsKept selection (bodies_in file (things ++ thing_is ∷ [])) written.count (first.bodies ++ body ∷ [])) old.held
              (λ file one two right.
              let parts = front-right file items things x_of thing_is [] [] same right in
              kept-bodies file written next.columns here_is parts (one parts.0) (two parts.1))
              first.of_file
              (told_here (λ file. thing_fault file thing_is ≡ None → AreKept selection (cloud_records cloud fields file) written.count next.columns) mid.held old.held (sym first.source.asks.same.held) next.of_file);
          puts =
              subst (λ (xs : List StatedItem). PutsItems view n xs (first.bodies ++ body ∷ []) a (offsets ++ written.place ∷ []) c) more
              (puts-more view n (kept_items selection number items) first.bodies y body a b c offsets written.place whole as_many first.puts (next.puts node));
        }

-- ---- no page is left

sections-prefix : (n p : ℕ) (items : List StatedItem) (bodies : List Body) (after : List StatedItem) (rest : List Body) → length items ≡ length bodies
    → (behind : List ℕ) × (sections_from n p (items ++ after) (bodies ++ rest) ≡ sections_from n p items bodies ++ behind)
unfolding sections_from
sections-prefix n p [] [] after rest same = (sections_from n p after rest, refl)
sections-prefix n p [] (b ∷ bodies) after rest same = absurd (omega (arith, same))
sections-prefix n p (i ∷ items) [] after rest same = absurd (omega (arith, same))
sections-prefix n p (i ∷ items) (b ∷ bodies) after rest same =
    let first = body_section n (1020 * p) i b in
    let later = sections-prefix n (page_behind p first) items bodies after rest (omega (arith, same)) in
    (later.0, ap (λ (xs : List ℕ). whole_pages first ++ xs) later.1 ∙ sym (append_assoc (whole_pages first) (sections_from n (page_behind p first) items bodies) later.0))

pages_cover : (size : ℕ) → size ≤ 1020 * pages_for size
unfolding pages_for
pages_cover size = omega arith

one-behind : {X : Type 0} (xs : List X) (x : X) (ys : List X) → (xs ++ x ∷ []) ++ ys ≡ xs ++ x ∷ ys
one-behind xs x ys = append_assoc xs (x ∷ []) ys

fills-more : {T : Type 0} (view : T → TargetView) (n : ℕ) (items : List StatedItem) (bodies : List Body) (x : StatedItem) (body : Body) (after : List StatedItem) (rest : List Body) (a b : Writing T) (offsets : List ℕ)
    → a.size % 1020 ≡ 0 → length items ≡ length bodies → PutsItems view n items bodies a offsets b → most_bytes ≤ b.size + length (body_section n b.size x body) → FillsFile n a.size (items ++ x ∷ after) (bodies ++ body ∷ rest)
fills-more view n items bodies x body after rest a b offsets whole same puts full =
    let p = a.size / 1020 in
    let now = ended view n items bodies a b offsets whole puts in
    let more = sections_more n p items bodies x body same in
    let section = body_section n (1020 * next_page n p items bodies) x body in
    let known : length (body_section n b.size x body) ≡ length section = ap (λ k. length (body_section n k x body)) now.2 in
    let counted : length (items ++ x ∷ []) ≡ length (bodies ++ body ∷ []) = let xs = length-append items (x ∷ []) in let bs = length-append bodies (body ∷ []) in omega (arith, xs, bs, same) in
    let front = sections-prefix n p (items ++ x ∷ []) (bodies ++ body ∷ []) after rest counted in
    let sections = sections_from n p items bodies in
    let long = puts.wrote.size in
    let both : length (sections_from n p (items ++ x ∷ []) (bodies ++ body ∷ [])) ≡ length sections + length (whole_pages section) = ap (λ (xs : List ℕ). length xs) more ∙ length-append sections (whole_pages section) in
    let pages = length-whole_pages section in
    let cover = pages_cover (length section) in
    record {
      before = sections_from n p (items ++ x ∷ []) (bodies ++ body ∷ []);
      after = front.0;
      cut =
          ap (λ (xs : List StatedItem). sections_from n p xs (bodies ++ body ∷ rest)) (sym (one-behind items x after))
          ∙ ap (λ (bs : List Body). sections_from n p ((items ++ x ∷ []) ++ after) bs) (sym (one-behind bodies body rest)) ∙ front.1;
      full = omega (arith, long, known, both, pages, cover, full);
    }

section-node : (n q node other count : ℕ) (fields : List Field) (body : Body) → body_section n q (stated_cloud node count fields) body ≡ body_section n q (stated_cloud other count fields) body
unfolding body_section
section-node n q node other count fields (records_body columns) = refl
section-node n q node other count fields (bytes_body bytes) = refl

-- ---- an item that is not put

module _ {T : Type 0} (view : T → TargetView) (n count : ℕ) (selection : Selection) (items : List StatedItem) (things : List Thing) (after : List StatedItem) (rest : List Thing) (old mid new : SourceView) (a b c : Writing T) (number : ℕ) (offsets : List ℕ)
    (whole : a.size % 1020 ≡ 0) (same : length items ≡ length things) (first : FiltersItems view n items things selection count old mid a number offsets b) where
  module _ (x : StatedItem) (thing : Thing) where
    abbrev all_items : List StatedItem
    all_items = items ++ x ∷ after

    abbrev all_things : List Thing
    all_things = things ++ thing ∷ rest

    -- with the section of this item, as it is put, no page is left
    fills : (file : List ℕ) → FrontRight items things x thing file → IsKept selection (bodies_in file things) number first.bodies
        → most_bytes ≤ b.size + length (body_section n b.size (new_item (is_here selection.cloud items x) selection.fields (kept_number selection (bodies_in file all_things)) x)
        (new_body (is_here selection.cloud items x) (kept_columns selection (cloud_columns selection.cloud (bodies_in file all_things))) (body_of file thing)))
        → FillsFile n a.size (kept_items selection (kept_number selection (bodies_in file all_things)) all_items) (kept_bodies selection (bodies_in file all_things))
    fills file right is full =
        let k = selection.cloud in
        let flags = selection.fields in
        let bodies = bodies_in file things in
        let last = body_of file thing in
        let behind = bodies_in file rest in
        let all = all-bodies file things thing rest in
        let whole_number = kept_number selection (bodies_in file all_things) in
        let kept = kept_columns selection (cloud_columns k (bodies_in file all_things)) in
        let h = is_here k items x in
        let front : kept_items selection whole_number items ≡ kept_items selection number items =
        ap (λ (bs : List Body). kept_items selection (kept_number selection bs) items) all
        ∙ front-items k flags (kept_count selection) items bodies (last ∷ behind) right.0.bodies ∙ ap (λ m. kept_items selection m items) (sym is.count) in
        let inner : with_columns k kept bodies ≡ first.bodies =
        ap (λ (bs : List Body). with_columns k (kept_columns selection (cloud_columns k bs)) bodies) all
        ∙ front-bodies k (kept_columns selection) bodies (last ∷ behind) ∙ sym is.are in
        let more = kept-more k flags whole_number items x after in
        let rows = columns-more k kept items bodies x last behind right.0.bodies right.2 in
        let y = new_item h flags whole_number x in
        let body = new_body h kept last in
        let items_are : kept_items selection whole_number all_items ≡ kept_items selection number items ++ y ∷ more.0 = more.1 ∙ ap (λ (xs : List StatedItem). xs ++ y ∷ more.0) front in
        let bodies_are : kept_bodies selection (bodies_in file all_things) ≡ first.bodies ++ body ∷ rows.0 =
        ap (with_columns k kept) all ∙ rows.1 ∙ ap (λ (bs : List Body). bs ++ body ∷ rows.0) inner in
        subst (λ (xs : List StatedItem). FillsFile n a.size xs (kept_bodies selection (bodies_in file all_things))) (sym items_are)
        (subst (λ (bs : List Body). FillsFile n a.size (kept_items selection number items ++ y ∷ more.0) bs) (sym bodies_are)
        (fills-more view n (kept_items selection number items) first.bodies y body more.0 rows.0 a b offsets whole (bodies_count (kept_items selection number items) first.bodies first.are_bodies) first.puts full))

    module _ (other : is_here selection.cloud items x ≡ false) where
      fills-other : (file : List ℕ) → FrontRight items things x thing file → IsKept selection (bodies_in file things) number first.bodies → most_bytes < b.size + length (body_section n b.size x (body_of file thing))
          → FillsFile n a.size (kept_items selection (kept_number selection (bodies_in file all_things)) all_items) (kept_bodies selection (bodies_in file all_things))
      fills-other file right is past =
          let flags = selection.fields in
          let whole_number = kept_number selection (bodies_in file all_things) in
          let kept = kept_columns selection (cloud_columns selection.cloud (bodies_in file all_things)) in
          let last = body_of file thing in
          let size : length (body_section n b.size x last) ≡ length (body_section n b.size (new_item (is_here selection.cloud items x) flags whole_number x) (new_body (is_here selection.cloud items x) kept last)) =
          ap (λ (y : StatedItem). length (body_section n b.size y last)) (sym (new-other flags whole_number x))
          ∙ ap (λ (one : Body). length (body_section n b.size (new_item false flags whole_number x) one)) (sym (body-other kept last))
          ∙ ap (λ (h : Bool). length (body_section n b.size (new_item h flags whole_number x) (new_body h kept last))) (sym other) in
          fills file right is (omega (arith, past, size))

      other-cause : (fault : RunFault) → IsItemCause view n x thing mid new b fault c → IsFilteringCause view n all_items all_things selection old new a fault c
      other-cause (Refused found) cause =
          told_map (λ file. all_pages_fault file ≡ None → thing_fault file thing ≡ None → IsBody x (body_of file thing) → ⊥) (λ file. AreRight all_items all_things file → ⊥) old.held
          (λ file never right. let parts = front-right file items things x thing after rest same right in never right.sound.0 parts.1 parts.2)
          (told_here (λ file. all_pages_fault file ≡ None → thing_fault file thing ≡ None → IsBody x (body_of file thing) → ⊥) mid.held old.held (sym first.source.asks.same.held) cause)
      other-cause Source cause = rose_before old.faults mid.faults new.faults first.source.asks.faults cause
      other-cause Out cause = rose_before (view a.target).faults (view b.target).faults (view c.target).faults first.puts.wrote.target.faults cause
      other-cause Memory cause = tt
      other-cause (Ask of_ask.Large) cause =
          told_both (λ file. AreRight items things file → IsKept selection (bodies_in file things) number first.bodies)
          (λ file. thing_fault file thing ≡ None → IsBody x (body_of file thing) → most_bytes < b.size + length (body_section n b.size x (body_of file thing)))
          (λ file. AreRight all_items all_things file → FillsFile n a.size (kept_items selection (kept_number selection (bodies_in file all_things)) all_items) (kept_bodies selection (bodies_in file all_things))) old.held
          (λ file one two right. let parts = front-right file items things x thing after rest same right in fills-other file parts (one parts.0) (two parts.1 parts.2))
          first.of_file
          (told_here (λ file. thing_fault file thing ≡ None → IsBody x (body_of file thing) → most_bytes < b.size + length (body_section n b.size x (body_of file thing))) mid.held old.held (sym first.source.asks.same.held) cause)
      other-cause (Ask why) cause = absurd cause

      pub loses-other : (fault : RunFault) → LosesItem view n x thing count mid new b fault c → LosesItems view n all_items all_things selection count old new a fault c
      loses-other fault lost = record {
        source = asks_where_on (λ file. Unit {0}) count old mid new first.source lost.source;
        left = leaves_later view a b (view c.target) first.puts.wrote.target lost.left;
        cause = other-cause fault lost.cause;
      }

  module _ (node : ℕ) (cloud : StatedCloud) (fields : List Field) (here_is : is_here selection.cloud items (stated_cloud node cloud.count fields) ≡ true) where
    abbrev y_of : StatedItem
    y_of = stated_cloud node cloud.count fields

    abbrev of_cloud : Thing
    of_cloud = thing_of cloud fields

    abbrev whole_items : List StatedItem
    whole_items = items ++ y_of ∷ after

    abbrev whole_things : List Thing
    whole_things = things ++ of_cloud ∷ rest

    fills-cloud : (file : List ℕ) → FrontRight items things y_of of_cloud file → IsKept selection (bodies_in file things) number first.bodies → most_bytes ≤ b.size + kept_length n b.size fields selection (cloud_records cloud fields file)
        → FillsFile n a.size (kept_items selection (kept_number selection (bodies_in file whole_things)) whole_items) (kept_bodies selection (bodies_in file whole_things))
    fills-cloud file right is full =
        let k = selection.cloud in
        let flags = selection.fields in
        let records = cloud_records cloud fields file in
        let all = all-bodies file things of_cloud rest in
        let found : cloud_columns k (bodies_in file whole_things) ≡ records = ap (cloud_columns k) all ∙ columns-here k items (bodies_in file things) y_of records (bodies_in file rest) right.0.bodies here_is in
        let size : kept_length n b.size fields selection records
        ≡ length (body_section n b.size (new_item (is_here k items y_of) flags (kept_number selection (bodies_in file whole_things)) y_of) (new_body (is_here k items y_of) (kept_columns selection (cloud_columns k (bodies_in file whole_things))) (body_of file of_cloud))) =
        ap (λ (xs : List ℕ). length xs) (section-node n b.size 0 node (kept_count selection records) (chosen flags fields) (records_body (kept_columns selection records)))
        ∙ ap (λ (cs : List (List Value)). length (body_section n b.size (stated_cloud node (kept_count selection cs) (chosen flags fields)) (records_body (kept_columns selection cs)))) (sym found)
        ∙ ap (λ (h : Bool). length (body_section n b.size (new_item h flags (kept_number selection (bodies_in file whole_things)) y_of) (new_body h (kept_columns selection (cloud_columns k (bodies_in file whole_things))) (body_of file of_cloud)))) (sym here_is) in
        fills y_of of_cloud file right is (omega (arith, full, size))

    cloud-cause : (fault : RunFault) → IsFilterCause view n cloud fields selection mid new b fault c → IsFilteringCause view n whole_items whole_things selection old new a fault c
    cloud-cause (Refused found) cause =
        told_map (λ file. all_pages_fault file ≡ None → thing_fault file of_cloud ≡ None → ⊥) (λ file. AreRight whole_items whole_things file → ⊥) old.held
        (λ file never right. let parts = front-right file items things y_of of_cloud after rest same right in never right.sound.0 parts.1)
        (told_here (λ file. all_pages_fault file ≡ None → thing_fault file of_cloud ≡ None → ⊥) mid.held old.held (sym first.source.asks.same.held) cause)
    cloud-cause Source cause = rose_before old.faults mid.faults new.faults first.source.asks.faults cause
    cloud-cause Out cause = rose_before (view a.target).faults (view b.target).faults (view c.target).faults first.puts.wrote.target.faults cause
    cloud-cause Memory cause = tt
    cloud-cause (Ask of_ask.Large) cause =
        told_both (λ file. AreRight items things file → IsKept selection (bodies_in file things) number first.bodies)
        (λ file. thing_fault file of_cloud ≡ None → most_bytes ≤ b.size + kept_length n b.size fields selection (cloud_records cloud fields file))
        (λ file. AreRight whole_items whole_things file → FillsFile n a.size (kept_items selection (kept_number selection (bodies_in file whole_things)) whole_items) (kept_bodies selection (bodies_in file whole_things))) old.held
        (λ file one two right. let parts = front-right file items things y_of of_cloud after rest same right in fills-cloud file parts (one parts.0) (two parts.1))
        first.of_file
        (told_here (λ file. thing_fault file of_cloud ≡ None → most_bytes ≤ b.size + kept_length n b.size fields selection (cloud_records cloud fields file)) mid.held old.held (sym first.source.asks.same.held) cause)
    cloud-cause (Ask why) cause = absurd cause

    pub loses-cloud : (fault : RunFault) → LosesFiltered view n cloud fields selection count mid new b fault c → LosesItems view n whole_items whole_things selection count old new a fault c
    loses-cloud fault lost = record {
      source = asks_where_on (λ file. Unit {0}) count old mid new first.source lost.source;
      left = leaves_later view a b (view c.target) first.puts.wrote.target lost.left;
      cause = cloud-cause fault lost.cause;
    }

-- no memory for the offset of an item that was put
pub filters-unnoted : {T : Type 0} (view : T → TargetView) (n count : ℕ) (selection : Selection) (items all : List StatedItem) (things whole : List Thing) (old new : SourceView) (a b : Writing T) (number : ℕ) (offsets : List ℕ)
    → FiltersItems view n items things selection count old new a number offsets b → LosesItems view n all whole selection count old new a Memory b
filters-unnoted view n count selection items all things whole old new a b number offsets done =
    record {
      source = done.source;
      left = leaves_later view a b (view b.target) done.puts.wrote.target (leaves_still view b done.puts.wrote.state);
      cause = tt;
    }

-- the new file can be written on, from a fresh page on
pub filters-whole : {T : Type 0} (view : T → TargetView) (n count : ℕ) (selection : Selection) (items : List StatedItem) (things : List Thing) (old new : SourceView) (a b : Writing T) (number : ℕ) (offsets : List ℕ)
    → a.held ≡ None → a.size % 1020 ≡ 0 → FiltersItems view n items things selection count old new a number offsets b → (b.is_spent ≡ false) × (b.held ≡ None) × (b.size % 1020 ≡ 0)
filters-whole view n count selection items things old new a b number offsets free whole first =
    (first.puts.wrote.state.unspent, first.puts.wrote.held ∙ free, (ended view n (kept_items selection number items) first.bodies a b offsets whole first.puts).0)
