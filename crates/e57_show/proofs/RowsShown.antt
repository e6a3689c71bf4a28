-- How `extract` ends, and what it asks for, from its steps.
use Rattle.std.specs.Prelude.{IfSome, IfErr, IsErrAnd, MatchResult}
use Rattle.std.specs.List.{AllByRecursion}
use Rattle.std.proofs.Common.{◌≡◌, ℕ, ◌≤◌, true, false, List, [], Option, Some, None, Result, Ok, Err, inl, inr, refl, sym, subst, ◌∙◌}
use Rattle.std.proofs.lemmas.List.{append-nil}
use Rattle.e57_base.proofs.CountLaws.{rose_before}
use Rattle.e57_base.specs.Source.{SourceView}
use Rattle.e57_base.specs.Sink.{SinkView}
use Rattle.e57_base.proofs.Told.{told_map, told_both, told_here}
use Rattle.e57_base.specs.Fault.{open_as_run}
use Rattle.e57_base.specs.declared.fault.AskFault.{AskFault}
use Rattle.e57_base.specs.declared.fault.OpenFault.{OpenFault}
use Rattle.e57_base.specs.declared.fault.OpenFault.TheVariants as of_open
use Rattle.e57_base.specs.declared.fault.RunFault.{RunFault}
use Rattle.e57_base.specs.declared.fault.RunFault.TheVariants.{Refused, Source, Out, Memory, Ask}
use Rattle.e57_base.specs.declared.kind.Kind.{Kind}
use Rattle.e57_base.specs.declared.kind.Kind.TheVariants.{XmlPlace, XmlLimit}
use Rattle.e57_page.specs.Pages.{Reading, AsksFor}
use Rattle.e57_page.proofs.PagesLaws.{asks_for_on}
use Rattle.e57_elements.specs.declared.tree.RawNode.{RawNode}
use Rattle.e57_elements.specs.Tree.{Element}
use Rattle.e57_file.specs.Text.{AsksForXml, section_text, is_place_kind}
use Rattle.e57_file.specs.Opened.{HasNodes, IsOpenCause}
use Rattle.e57_show.specs.declared.select.Selected.{Selected}
use Rattle.e57_show.specs.Opening.{IsPastPlace}
use Rattle.e57_show.specs.Streaming.{IsWhole, PutsSome, StreamEnds}
use Rattle.e57_show.specs.Extract.{Asked, Selection, select, Selects, LacksAsked, selected_text, selected_fault, IsRowsFault, IsRowsOutput, is_rows_kind, rows_streamed, IsMetBy, AreRowsPages, AsksForRows}
use Rattle.e57_show.specs.Extracting.{selection_of, IsSelected, IsUnselected, selection_streamed, AsksSelected}
use Rattle.e57_show.proofs.Showing.{IsEither, IsOneTree, no_tree_fault}

-- ---- what is asked for

-- pages of the XML section alone
pub asked-text : {S : Type 0} (now : Reading S) (asked : Asked) (old new : SourceView) → AsksForXml now old new → AsksForRows now asked old new
asked-text now asked old new (text, rises, unkept, asks) =
    record {
      text = text;
      rows = [];
      text_rises = rises;
      text_unkept = unkept;
      of_rows = inl refl;
      asks = subst (λ (pages : List ℕ). AsksFor old pages new) (sym (append-nil text)) asks;
    }

-- and then pages on the way to what is asked
pub asked-rows : {S : Type 0} (now : Reading S) (asked : Asked) (s : Selection) (old mid new : SourceView) → AsksForXml now old mid → IfSome old.held (λ file. Selects asked file s) → AsksSelected s mid new → AsksForRows now asked old new
asked-rows now asked s old mid new (text, rises, unkept, asks) selects met =
    record {
      text = text;
      rows = met.pages;
      text_rises = rises;
      text_unkept = unkept;
      of_rows = inr
          (told_both (λ file. Selects asked file s) (λ file. AllByRecursion (IsMetBy file s) met.pages) (λ file. AreRowsPages asked file met.pages) old.held (λ file is all. (s, is, all)) selects
          (told_here (λ file. AllByRecursion (IsMetBy file s) met.pages) mid.held old.held (sym asks.same.held) met.are_met));
      asks = asks_for_on text met.pages asks met.asks;
    }

-- ---- the tree of a told file

pub selects-of : (asked : Asked) (nodes : List RawNode) (given : Selected) (held : Option (List ℕ)) → (is : IsSelected nodes asked given) → IfSome held (λ file. HasNodes file nodes) → IfSome held (λ file. Selects asked file (selection_of given is.of_cloud.fields))
selects-of asked nodes given held is told =
    told_map (λ file. HasNodes file nodes) (λ file. Selects asked file (selection_of given is.of_cloud.fields)) held
    (λ file read. (read.tree, record { has = read.has; typed = read.typed }, is.selects read.tree read.in_preorder is.of_cloud.fields (is.of_cloud.has_fields read.tree read.in_preorder))) told

-- ---- one answer

-- a file has one selection, or lacks one thing first, and never both
one-selection : (file : List ℕ) (asked : Asked) (a b : Selection) → IsOneTree → Selects asked file a → Selects asked file b → a ≡ b
one-selection file asked a b one (x, sound, is) (y, also, here) =
    let same : y ≡ x = one (section_text file) y x also.has.spells sound.has.spells in
    ok-same a b (sym is ∙ subst (λ (e : Element). select asked e ≡ Ok b) same here)
  where
    ok-same : (p q : Selection) → ◌≡◌ {A = Result Selection AskFault} (Ok p) (Ok q) → p ≡ q
    ok-same p q is = cc

not-lacking : (file : List ℕ) (asked : Asked) (s : Selection) (why : AskFault) → IsOneTree → Selects asked file s → LacksAsked asked file why → ⊥
not-lacking file asked s why one (x, sound, is) (y, also, here) =
    let same : y ≡ x = one (section_text file) y x also.has.spells sound.has.spells in
    never s why (sym is ∙ subst (λ (e : Element). select asked e ≡ Err why) same here)
  where
    never : (p : Selection) (w : AskFault) → ◌≡◌ {A = Result Selection AskFault} (Ok p) (Err w) → ⊥
    never p w is = cc

whole-file : (file : List ℕ) (asked : Asked) (nodes : List RawNode) (s : Selection) → IsEither → IsOneTree → HasNodes file nodes → Selects asked file s → IsWhole (selection_streamed s) file → IsWhole (rows_streamed asked) file
whole-file file asked nodes s either one read is whole = record {
  early = λ found tree. no_tree_fault file nodes either one read found tree;
  late = λ found (other, selects, wrong). whole.late found (subst (λ (t : Selection). selected_fault file t ≡ Some found) (one-selection file asked other s one selects is) wrong);
  there = λ why lacks. not-lacking file asked s why one is lacks;
}

-- ---- the ends

-- the file wasn't opened
pub not-opened : (asked : Asked) (old new : SourceView) (out : SinkView) (fault : OpenFault) → IsOpenCause old fault new → StreamEnds (rows_streamed asked) old new out out (Some (open_as_run fault))
not-opened asked old new out (of_open.Refused found) cause = inl (cause.0, cause.1, refl)
not-opened asked old new out of_open.Source cause = (cause, inl refl)
not-opened asked old new out of_open.Memory cause = inl refl

-- it doesn't have what is asked for
pub not-selected : (asked : Asked) (nodes : List RawNode) (old new : SourceView) (out : SinkView) (fault : RunFault) → IsUnselected nodes asked fault → IfSome old.held (λ file. HasNodes file nodes) → StreamEnds (rows_streamed asked) old new out out (Some fault)
not-selected asked nodes old new out (Refused found) never told = absurd never
not-selected asked nodes old new out Source never told = absurd never
not-selected asked nodes old new out Out never told = absurd never
not-selected asked nodes old new out Memory is told = inl refl
not-selected asked nodes old new out (Ask why) (may, lacks) told = (
  may,
  told_map (λ file. HasNodes file nodes) (λ file. LacksAsked asked file why) old.held (λ file read. (read.tree, record { has = read.has; typed = read.typed }, lacks read.tree read.in_preorder)) told,
  refl,
)

output-of : (asked : Asked) (s : Selection) (held : Option (List ℕ)) (text : List ℕ) → IfSome held (λ file. Selects asked file s) → IfSome held (λ file. text ≡ selected_text file s) → IfSome held (λ file. IsRowsOutput asked file text)
output-of asked s held text selects is = told_both (λ file. Selects asked file s) (λ file. text ≡ selected_text file s) (λ file. IsRowsOutput asked file text) held (λ file at same. (s, at, same)) selects is

some-of : (asked : Asked) (s : Selection) (before held : Option (List ℕ)) (out out' : SinkView) → held ≡ before → IfSome held (λ file. Selects asked file s) → PutsSome (selection_streamed s) before out out' → PutsSome (rows_streamed asked) held out out'
some-of asked s before held out out' same selects (inl none) = inl none
some-of asked s before held out out' same selects (inr (text, is, wrote)) = inr ((text, output-of asked s held text selects (told_here (λ file. text ≡ selected_text file s) before held same is), wrote))

-- the rows were put, or not all of them
pub rows-end : {T : Type 0} (asked : Asked) (nodes : List RawNode) (s : Selection) (old mid new : SourceView) (out out' : SinkView) (result : Result T RunFault) → IsEither → IsOneTree → mid.held ≡ old.held → old.faults ≤ mid.faults → IfSome old.held (λ file. HasNodes file nodes) → IfSome old.held (λ file. Selects asked file s)
    → MatchResult result (λ _. StreamEnds (selection_streamed s) mid new out out' None) (λ fault. StreamEnds (selection_streamed s) mid new out out' (Some fault))
    → MatchResult result (λ _. StreamEnds (rows_streamed asked) old new out out' None) (λ fault. StreamEnds (rows_streamed asked) old new out out' (Some fault))
rows-end asked nodes s old mid new out out' (Ok x) either one same counts read selects (whole, (text, is, wrote)) = (
  told_both (λ file. HasNodes file nodes × Selects asked file s) (λ file. IsWhole (selection_streamed s) file) (λ file. IsWhole (rows_streamed asked) file) old.held
      (λ file both whole. whole-file file asked nodes s either one both.0 both.1 whole)
      (told_both (λ file. HasNodes file nodes) (λ file. Selects asked file s) (λ file. HasNodes file nodes × Selects asked file s) old.held (λ file a b. (a, b)) read selects)
      (told_here (λ file. IsWhole (selection_streamed s) file) mid.held old.held (sym same) whole),
  (text, output-of asked s old.held text selects (told_here (λ file. text ≡ selected_text file s) mid.held old.held (sym same) is), wrote),
)
rows-end asked nodes s old mid new out out' (Err fault) either one same counts read selects ends = by_fault fault ends
  where
    by_fault : (fault : RunFault) → StreamEnds (selection_streamed s) mid new out out' (Some fault) → StreamEnds (rows_streamed asked) old new out out' (Some fault)
    by_fault (Refused found) (inl (named, never, none)) = absurd cc
    by_fault (Refused found) (inr (kind, wrong, (text, is, wrote))) =
        inr (
          kind,
          told_both (λ file. Selects asked file s) (λ file. selected_fault file s ≡ Some found) (λ file. IsRowsFault asked file found) old.held (λ file at late. (s, at, late)) selects
              (told_here (λ file. selected_fault file s ≡ Some found) mid.held old.held (sym same) wrong),
          (text, output-of asked s old.held text selects (told_here (λ file. text ≡ selected_text file s) mid.held old.held (sym same) is), wrote),
        )
    by_fault Source (rose, puts) = (rose_before old.faults mid.faults new.faults counts rose, some-of asked s mid.held old.held out out' (sym same) selects puts)
    by_fault Out (rose, (text, is, wrote)) = (rose, (text, output-of asked s old.held text selects (told_here (λ file. text ≡ selected_text file s) mid.held old.held (sym same) is), wrote))
    by_fault Memory puts = some-of asked s mid.held old.held out out' (sym same) selects puts
    by_fault (Ask why) (may, never, none) = absurd cc

-- ---- no fault of the XML section's place

rows-kind : (kind : Kind) → is_rows_kind kind ≡ true → is_place_kind kind ≡ false
rows-kind XmlPlace is = absurd cc
rows-kind XmlLimit is = absurd cc
rows-kind other is = refl

pub rows-past : {T : Type 0} (s : Selection) (old new : SourceView) (out out' : SinkView) (result : Result T RunFault) → MatchResult result (λ _. StreamEnds (selection_streamed s) old new out out' None) (λ fault. StreamEnds (selection_streamed s) old new out out' (Some fault)) → IfErr result IsPastPlace
rows-past s old new out out' (Ok x) ends = tt
rows-past s old new out out' (Err fault) ends = by_fault fault ends
  where
    by_fault : (fault : RunFault) → StreamEnds (selection_streamed s) old new out out' (Some fault) → IsPastPlace fault
    by_fault (Refused found) (inl (named, never, none)) = absurd cc
    by_fault (Refused found) (inr (kind, wrong, puts)) = rows-kind found.kind kind
    by_fault Source ends = tt
    by_fault Out ends = tt
    by_fault Memory ends = tt
    by_fault (Ask why) ends = tt

pub select-past : {T : Type 0} (asked : Asked) (nodes : List RawNode) (result : Result T RunFault) (fault : RunFault) → IsErrAnd result (λ f. f ≡ fault) → IsUnselected nodes asked fault → IfErr result IsPastPlace
select-past asked nodes (Ok x) fault is cause = tt
select-past asked nodes (Err f) fault is cause = subst IsPastPlace (sym is) (by_fault fault cause)
  where
    by_fault : (fault : RunFault) → IsUnselected nodes asked fault → IsPastPlace fault
    by_fault (Refused found) never = absurd never
    by_fault Source never = absurd never
    by_fault Out never = absurd never
    by_fault Memory is = tt
    by_fault (Ask why) is = tt
