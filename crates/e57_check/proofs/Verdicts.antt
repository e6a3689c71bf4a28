-- The verdict on an open file: its pages, its tree, its clouds and blobs.
use Rattle.std.specs.Prelude.{◌≡◌, ℕ, zero, suc, ◌+◌, ◌/◌, ◌<◌, ◌≤◌, min, List, length, Option, Some, None, IfSome}
use Rattle.std.specs.List.{AllByRecursion, range_with_len}
use Rattle.std.specs.Option.{option_or}
use Rattle.std.proofs.Common.{sym, subst, ap, ◌∙◌, arith, inl, inr, ⊎_elim, zero-add}
use Rattle.e57_base.proofs.CountLaws.{rose_before}
use Rattle.e57_base.specs.Fault.{read_as_open}
use Rattle.e57_base.specs.Source.{SourceView}
use Rattle.e57_base.proofs.Told.{told_both, told_here, length_told}
use Rattle.e57_base.specs.declared.fault.Fault.{Fault}
use Rattle.e57_base.specs.declared.fault.ReadFault.{ReadFault}
use Rattle.e57_base.specs.declared.fault.ReadFault.TheVariants as of_read
use Rattle.e57_base.specs.declared.fault.OpenFault.{OpenFault}
use Rattle.e57_base.specs.declared.fault.OpenFault.TheVariants.{Refused, Source, Memory}
use Rattle.e57_page.specs.File.{page_fault, pages_fault, opening_fault, logical_size}
use Rattle.e57_page.proofs.FileLaws.{pages_fault-found}
use Rattle.e57_page.specs.Header.{header_of}
use Rattle.e57_page.specs.Pages.{Reading, IsScanned, IsScannedTo}
use Rattle.e57_page.specs.Place.{span_end}
use Rattle.e57_page.specs.XmlSection.{xml_start, xml_span_fault}
use Rattle.e57_elements.specs.Lawful.{AreNodes}
use Rattle.e57_elements.specs.Tree.{Element, preorder}
use Rattle.e57_elements.specs.declared.tree.RawNode.{RawNode}
use Rattle.e57_nodes.specs.Shape.{shape_of}
use Rattle.e57_nodes.specs.Typed.{typed_fault}
use Rattle.e57_nodes.specs.Items.{stated_items}
use Rattle.e57_file.specs.Text.{xml_fault, AsksForXml}
use Rattle.e57_file.specs.Opened.{HasXmlTree, IsTreeFault, HasNodes, IsOpenCause}
use Rattle.e57_verdict.specs.Things.{things_in, things_fault, cloud_count, blob_count}
use Rattle.e57_verdict.specs.Verdict.{all_pages_fault, fault_before_text, fault_behind_text, HasTree, IsFileFault, IsVerdict, accepted, refused, accepted_with}
use Rattle.e57_verdict.proofs.Laws.Opening.{before-opening, before-section}
use Rattle.e57_check.specs.Asking.{AsksWhere}
use Rattle.e57_check.proofs.AskingLaws.{asks_where_on, asks_anywhere, unkept_pages}
use Rattle.e57_check.specs.Checking.{HasSoundNodes, IsRejection, Judges, Rejects, Counts, JudgesThings, RefusesThings}
use Rattle.e57_check.specs.declared.summary.Summary.{Summary}

-- ---- an open file

-- The file has this length, and no fault of its length, header and page 0.
pub record IsOpen (size : ℕ) (file : List ℕ) : Type 0 where
  pub long : length file ≡ size
  pub first : opening_fault file ≡ None

pub is-open : (size : ℕ) (view : SourceView) → IfSome view.held (λ file. view.size ≡ Some (length file)) → view.size ≡ Some size → IfSome view.held (λ file. opening_fault file ≡ None) → IfSome view.held (IsOpen size)
is-open size view holds known first =
    told_both (λ file. length file ≡ size) (λ file. opening_fault file ≡ None) (IsOpen size) view.held (λ file long none. record { long = long; first = none }) (length_told view.held view.size size holds known) first

-- ---- its pages

range-below : (a k count : ℕ) → a + k ≤ count → AllByRecursion (λ (p : ℕ). p < count) (range_with_len a k)
range-below a zero count within = tt
range-below a (suc k) count within = (omega (arith, within), range-below (a + 1) k count (omega (arith, within)))

page-lost : (file : List ℕ) (size n : ℕ) (found : Fault) → IsOpen size file → n < size / 1024 → pages_fault file 0 n ≡ None → page_fault file n ≡ Some found → fault_before_text file ≡ Some found
page-lost file size n found whole_file below right lost =
    let pages : all_pages_fault file ≡ Some found = subst (λ (k : ℕ). pages_fault file 0 (k / 1024) ≡ Some found) (sym whole_file.long) (pages_fault-found file 0 n (size / 1024) found right (rw zero-add lost) below) in
    before-opening file
    ∙ ap (λ (o : Option Fault). option_or o (option_or (all_pages_fault file) (xml_span_fault (header_of file) (logical_size file)))) whole_file.first
    ∙ ap (λ (o : Option Fault). option_or o (xml_span_fault (header_of file) (logical_size file))) pages

pub scan-lost : (size n : ℕ) (old new : SourceView) (found : ReadFault) (given : OpenFault) → given ≡ read_as_open found → IfSome old.held (IsOpen size) → IsScannedTo old (size / 1024) found n new → Rejects (size / 1024) old given new
scan-lost size n old new found given same whole_file lost =
    let below = lost.within in
    record {
      source = record { pages = range_with_len 0 (n + 1); within = asked old.held (range-below 0 (n + 1) (size / 1024) (omega (arith, below))); asks = lost.source };
      cause = subst (λ (f : OpenFault). IsRejection old f new) (sym same) (by-fault found lost);
    }
  where
    asked : (held : Option (List ℕ)) → AllByRecursion (λ (p : ℕ). p < size / 1024) (range_with_len 0 (n + 1)) → IfSome held (λ file. Unit {0} → AllByRecursion (λ (p : ℕ). p < size / 1024) (range_with_len 0 (n + 1)))
    asked None all = tt
    asked (Some file) all = λ always. all

    by-fault : (found : ReadFault) → IsScannedTo old (size / 1024) found n new → IsRejection old (read_as_open found) new
    by-fault (of_read.Refused f) lost =
        told_both (λ file. IsOpen size file × (pages_fault file 0 n ≡ None)) (λ file. page_fault file n ≡ Some f) (λ file. IsVerdict file (refused f)) old.held
        (λ file is wrong. inl (page-lost file size n f is.0 lost.within is.1 wrong))
        (told_both (IsOpen size) (λ file. pages_fault file 0 n ≡ None) (λ file. IsOpen size file × (pages_fault file 0 n ≡ None)) old.held (λ file is right. (is, right)) whole_file lost.right)
        lost.cause.1
    by-fault of_read.Source lost = lost.cause

-- what is judged before the text is that of the XML section
abbrev pub IsBefore : List ℕ → Type 0
IsBefore file = fault_before_text file ≡ xml_fault file

-- All pages were read, and none has a fault.
pub record HasPages (count : ℕ) (old new : SourceView) : Type 0 where
  pub source : AsksWhere (λ file. Unit {0}) count old new
  pub before : IfSome old.held IsBefore

pub scanned : (size count : ℕ) (old new : SourceView) → IfSome old.held (IsOpen size) → count ≡ size / 1024 → IsScanned old count new → HasPages (size / 1024) old new
scanned size count old new whole_file same is =
    record {
      source = record { pages = range_with_len 0 count; within = asked old.held (range-below 0 count (size / 1024) (omega (arith, same))); asks = is.source };
      before = told_both (IsOpen size) (λ file. pages_fault file 0 count ≡ None) IsBefore old.held
          (λ file known right.
          let all : all_pages_fault file ≡ None = subst (λ (k : ℕ). pages_fault file 0 (k / 1024) ≡ None) (sym known.long) (subst (λ (k : ℕ). pages_fault file 0 k ≡ None) same right) in
          before-section file all ∙ ap (λ (o : Option Fault). option_or o (xml_fault file)) known.first) whole_file is.right;
    }
  where
    asked : (held : Option (List ℕ)) → AllByRecursion (λ (p : ℕ). p < size / 1024) (range_with_len 0 count) → IfSome held (λ file. Unit {0} → AllByRecursion (λ (p : ℕ). p < size / 1024) (range_with_len 0 count))
    asked None all = tt
    asked (Some file) all = λ always. all

-- ---- its tree

pub xml-asked : {S : Type 0} (now : Reading S) (count : ℕ) (old new : SourceView) → now.length / 1024 ≡ count → AsksForXml now old new → AsksWhere (λ file. Unit {0}) count old new
xml-asked now count old new same asks =
    asks_anywhere (λ file. Unit {0}) count old new
    (unkept_pages now.kept (xml_start now.header / 1020) (min (span_end (xml_start now.header) now.header.xml_length) (now.length / 1024)) count old new (omega (arith, same)) asks)

tree-fault : (file : List ℕ) (found : Fault) → IsBefore file → IsTreeFault file found → IsFileFault file found
unfolding fault_behind_text
tree-fault file found before lost =
    ⊎_elim
    (λ text. ⊎_elim (λ (first : xml_fault file ≡ Some found). inl (before ∙ first)) (λ later. inr (inl (before ∙ later.0, later.1))) text)
    (λ (node : (tree : Element) × HasXmlTree file tree × (typed_fault (shape_of tree) ≡ Some found)).
    inr (inr (node.0, record { sound = before ∙ node.1.sound; spells = node.1.spells; is_lawful = node.1.is_lawful }, ap (λ (o : Option Fault). option_or o (things_fault file (things_in node.0))) node.2))) lost

pub tree-lost : (count : ℕ) (old mid new : SourceView) (found : OpenFault) → HasPages count old mid → AsksWhere (λ file. Unit {0}) count mid new → IsOpenCause mid found new → Rejects count old found new
tree-lost count old mid new found pages asks lost =
    record { source = asks_where_on (λ file. Unit {0}) count old mid new pages.source asks; cause = by-fault found lost }
  where
    by-fault : (found : OpenFault) → IsOpenCause mid found new → IsRejection old found new
    by-fault (Refused f) lost =
        told_both IsBefore (λ file. IsTreeFault file f) (λ file. IsVerdict file (refused f)) old.held (λ file before is. tree-fault file f before is) pages.before
        (told_here (λ file. IsTreeFault file f) mid.held old.held (sym pages.source.asks.same.held) lost.1)
    by-fault Source lost = rose_before old.faults mid.faults new.faults pages.source.asks.faults lost
    by-fault Memory lost = tt

-- The pages were read, and then the tree, whose nodes are these.
pub record HasFile (count : ℕ) (old : SourceView) (nodes : List RawNode) (new : SourceView) : Type 0 where
  pub source : AsksWhere (λ file. Unit {0}) count old new
  pub before : IfSome old.held IsBefore
  pub has : IfSome old.held (λ file. HasNodes file nodes)
  pub are : AreNodes nodes

pub opened : (count : ℕ) (old mid new : SourceView) (nodes : List RawNode) → HasPages count old mid → AsksWhere (λ file. Unit {0}) count mid new → IfSome mid.held (λ file. HasNodes file nodes) → AreNodes nodes → HasFile count old nodes new
opened count old mid new nodes pages asks has are = record {
  source = asks_where_on (λ file. Unit {0}) count old mid new pages.source asks;
  before = pages.before;
  has = told_here (λ file. HasNodes file nodes) mid.held old.held (sym pages.source.asks.same.held) has;
  are = are;
}

-- ---- its clouds and blobs

has-tree : (file : List ℕ) (tree : Element) → IsBefore file → HasXmlTree file tree → HasTree file tree
has-tree file tree before has = record { sound = before ∙ has.sound; spells = has.spells; is_lawful = has.is_lawful }

things-after : (file : List ℕ) (tree : Element) (o : Option Fault) → typed_fault (shape_of tree) ≡ None → things_fault file (things_in tree) ≡ o → fault_behind_text file tree ≡ o
unfolding fault_behind_text
things-after file tree o typed is = ap (λ (x : Option Fault). option_or x (things_fault file (things_in tree))) typed ∙ is

same-counts : (tree : Element) (s : Summary) → Counts tree s → accepted s.clouds s.blobs s.records ≡ accepted_with (stated_items (shape_of tree))
same-counts tree s counts =
    ap (λ (n : ℕ). accepted n s.blobs s.records) counts.clouds
    ∙ ap (λ (n : ℕ). accepted (cloud_count (stated_items (shape_of tree))) n s.records) counts.blobs
    ∙ ap (λ (n : ℕ). accepted (cloud_count (stated_items (shape_of tree))) (blob_count (stated_items (shape_of tree))) n) counts.records

pub judges : (count : ℕ) (old mid new : SourceView) (nodes : List RawNode) (s : Summary) → HasFile count old nodes mid → ((e : Element) → nodes ≡ preorder e → JudgesThings count mid e s new) → Judges count old nodes s new
judges count old mid new nodes s file judged =
    let none = λ (e : Element) (same : nodes ≡ preorder e). told_here (λ bytes. things_fault bytes (things_in e) ≡ None) mid.held old.held (sym file.source.asks.same.held) (judged e same).none.sound in
    record {
      accepts = record { source = asks_where_on (λ file. Unit {0}) count old mid new file.source (judged file.are.tree file.are.in_preorder).none.source; verdict = told old.held file.before file.has none };
      file = sound old.held file.before file.has none;
    }
  where
    sound : (held : Option (List ℕ)) → IfSome held IsBefore → IfSome held (λ bytes. HasNodes bytes nodes) → ((e : Element) → nodes ≡ preorder e → IfSome held (λ bytes. things_fault bytes (things_in e) ≡ None)) → IfSome held (λ bytes. HasSoundNodes bytes nodes)
    sound None before has none = tt
    sound (Some bytes) before has none = record {
      tree = has.tree;
      in_preorder = has.in_preorder;
      sound = record { has_tree = has-tree bytes has.tree before has.has; sound = things-after bytes has.tree None has.typed (none has.tree has.in_preorder) };
      has = has;
    }

    told : (held : Option (List ℕ)) → IfSome held IsBefore → IfSome held (λ bytes. HasNodes bytes nodes) → ((e : Element) → nodes ≡ preorder e → IfSome held (λ bytes. things_fault bytes (things_in e) ≡ None)) → IfSome held (λ bytes. IsVerdict bytes (accepted s.clouds s.blobs s.records))
    told None before has none = tt
    told (Some bytes) before has none = (
      has.tree,
      record { has_tree = has-tree bytes has.tree before has.has; sound = things-after bytes has.tree None has.typed (none has.tree has.in_preorder) },
      same-counts has.tree s (judged has.tree has.in_preorder).counts,
    )

pub things-lost : (count : ℕ) (old mid new : SourceView) (nodes : List RawNode) (found : OpenFault) → HasFile count old nodes mid → ((e : Element) → nodes ≡ preorder e → RefusesThings count mid e found new) → Rejects count old found new
things-lost count old mid new nodes found file lost = record {
  source = asks_where_on (λ file. Unit {0}) count old mid new file.source (lost file.are.tree file.are.in_preorder).source;
  cause = by-fault found lost;
}
  where
    told : (f : Fault) (held : Option (List ℕ)) → IfSome held IsBefore → IfSome held (λ bytes. HasNodes bytes nodes) → ((e : Element) → nodes ≡ preorder e → IfSome held (λ bytes. things_fault bytes (things_in e) ≡ Some f)) → IfSome held (λ bytes. IsVerdict bytes (refused f))
    told f None before has lost = tt
    told f (Some bytes) before has lost = inr (inr (has.tree, has-tree bytes has.tree before has.has, things-after bytes has.tree (Some f) has.typed (lost has.tree has.in_preorder)))

    by-fault : (found : OpenFault) → ((e : Element) → nodes ≡ preorder e → RefusesThings count mid e found new) → IsRejection old found new
    by-fault (Refused f) lost = told f old.held file.before file.has (λ e same. told_here (λ bytes. things_fault bytes (things_in e) ≡ Some f) mid.held old.held (sym file.source.asks.same.held) (lost e same).cause)
    by-fault Source lost = rose_before old.faults mid.faults new.faults file.source.asks.faults (lost file.are.tree file.are.in_preorder).cause
    by-fault Memory lost = tt
