-- A range is read page by page.
use Rattle.std.proofs.Common.{◌≡◌, ℕ, ◌+◌, ◌-◌, ◌*◌, ◌/◌, ◌<◌, ◌≤◌, min, List, [], ◌∷◌, ◌++◌, length, take, drop, Option, Some, None, IfSome, Bool, true, false, if◌then◌else◌, inl, inr, refl, sym, ap, ◌∙◌, subst, arith, length-take, length-drop}
use Rattle.std.proofs.lemmas.List.{take-take, take_all, drop_all, take_at, drop_at, drop-drop, drop-take, take-append-drop, append-nil}
use Rattle.std.proofs.lemmas.Bool.{cases_lt}
use Rattle.std.proofs.lemmas.Bool.Decides.{nat_tests}
use Rattle.std.proofs.lemmas.Slice.{drop-put_mid}
use Rattle.e57_base.specs.Source.{SourceView, HoldsSize, page_of}
use Rattle.e57_base.specs.declared.fault.ReadFault.{ReadFault}
use Rattle.e57_page.specs.Place.{span_end}
use Rattle.e57_page.proofs.PlaceLaws.{rises_on}
use Rattle.e57_page.specs.Kept.{is_kept, KeepsTo}
use Rattle.e57_page.proofs.KeptLaws.{keeps_none, keeps_on, unkept_on}
use Rattle.e57_page.specs.File.{logical, page_fault, pages_fault}
use Rattle.e57_page.proofs.FileLaws.{pages_fault-zero, pages_fault-more, logical-piece}
use Rattle.e57_page.specs.Pages.{AsksFor, AsksUnkept, ReadsRange, IsCutAt}
use Rattle.e57_page.proofs.PagesLaws.{asks_for_none, asks_for_on, is_stopped_before}
use Rattle.e57_page.specs.Fetch.{IsPage, IsNotFetched, unless_kept, before_page, page_piece, with_part, SameBetween, ReadsPiece, HasRead}
use Rattle.e57_page.proofs.Fetching.{told_right, told_later}

-- the front, the part and the rest of a list with a part
with_part-front : (place : ℕ) (part bytes : List ℕ) → place ≤ length bytes → take place (with_part place part bytes) ≡ take place bytes
with_part-front place part bytes fits =
    take_at (take place bytes) (part ++ drop (place + length part) bytes) place (rw length-take (omega arith))

with_part-after : (place : ℕ) (part bytes : List ℕ) → place ≤ length bytes → drop place (with_part place part bytes) ≡ part ++ drop (place + length part) bytes
with_part-after place part bytes fits =
    drop_at (take place bytes) (part ++ drop (place + length part) bytes) place (rw length-take (omega arith))

with_part-rest : (place end : ℕ) (part bytes : List ℕ) → place + length part ≤ end → place ≤ length bytes → drop end (with_part place part bytes) ≡ drop end bytes
with_part-rest place end part bytes past fits =
    rw (← drop-drop (length part) place bytes) (drop-put_mid place (length part) bytes part end past fits refl)

-- a front in two steps
take_split : (low more : ℕ) (xs : List ℕ) → take (low + more) xs ≡ take low xs ++ take more (drop low xs)
take_split low more xs =
    sym (take-append-drop low (take (low + more) xs))
    ∙ rw (take-take low (low + more) xs (omega arith), drop-take low more xs)

-- lists that are the same up to a place, and then up to a later one
take_on : (low high : ℕ) (xs ys : List ℕ) → low ≤ high → take low xs ≡ take low ys → SameBetween low high xs ys → take high xs ≡ take high ys
take_on low high xs ys below front next =
    let more : high ≡ low + (high - low) = omega arith in
    ap (λ (n : ℕ). take n xs) more ∙ (take_split low (high - low) xs ∙ (rw (front, next) (sym (take_split low (high - low) ys)) ∙ ap (λ (n : ℕ). take n ys) (sym more)))

drop_on : (low high : ℕ) (xs ys : List ℕ) → low ≤ high → drop low xs ≡ drop low ys → drop high xs ≡ drop high ys
drop_on low high xs ys below rest =
    let more : high ≡ low + (high - low) = omega arith in
    rw (more, ← drop-drop (high - low) low xs, ← drop-drop (high - low) low ys, rest)

-- the least of two counts
take_min_of : (m n : ℕ) (xs : List ℕ) → take m (take n xs) ≡ take (min m n) xs
take_min_of m n xs =
    elim (cases_lt m n) [
      | inl below ↦ let least : min m n ≡ m = omega arith in rw least (take-take m n xs (omega arith))
      | inr above ↦ let least : min m n ≡ n = omega arith in rw least (take_all m (take n xs) (rw length-take (omega arith)))
    ]

-- where the part is as long as fits before `high` or before the end
with_part-between : (low high : ℕ) (part bytes : List ℕ) → low ≤ length bytes → length part ≡ min (high - low) (length bytes - low) → take (high - low) (drop low (with_part low part bytes)) ≡ part
with_part-between low high part bytes fits long =
    rw (with_part-after low part bytes fits)
    (elim (cases_lt (length bytes) high) [
      | inl short ↦ let all : length bytes ≤ low + length part = omega arith in let end : length part ≤ high - low = omega arith in rw (drop_all (low + length part) bytes all, append-nil part) (take_all (high - low) part end)
      | inr long_enough ↦ take_at part (drop (low + length part) bytes) (high - low) (omega arith)
    ])

-- the same of the wanted bytes: they are those of page n
wanted_between : (file : List ℕ) (at n size : ℕ) → n < length file / 1024 → at < 1020 * (n + 1) → 1020 * n < at + size → take (before_page at (n + 1) - before_page at n) (drop (before_page at n) (take size (drop at (logical file)))) ≡ page_piece at n size (page_of file n)
wanted_between file at n size below reaches begins =
    let d = before_page at n in
    let skip = at - 1020 * n in
    let width : before_page at (n + 1) - before_page at n ≡ 1020 - (at - 1020 * n) = omega arith in
    let whole : size ≡ before_page at n + (size - before_page at n) = omega arith in
    let place : at + before_page at n ≡ 1020 * n + (at - 1020 * n) = omega arith in
    let first : drop (before_page at n) (take size (drop at (logical file))) ≡ take (size - before_page at n) (drop (1020 * n + (at - 1020 * n)) (logical file)) =
    ap (λ (k : ℕ). drop (before_page at n) (take k (drop at (logical file)))) whole
    ∙ (drop-take (before_page at n) (size - before_page at n) (drop at (logical file))
    ∙ ap (λ (xs : List ℕ). take (size - before_page at n) xs) (drop-drop (before_page at n) at (logical file) ∙ ap (λ (k : ℕ). drop k (logical file)) place))
    in
    rw (first, width, take_min_of (1020 - (at - 1020 * n)) (size - before_page at n) (drop (1020 * n + (at - 1020 * n)) (logical file)))
    (logical-piece file n (at - 1020 * n) (min (1020 - (at - 1020 * n)) (size - before_page at n)) below (omega arith))

-- A piece of page n was copied.
module _ (at n : ℕ) (page before after : List ℕ) (long : length page ≡ 1024) (reaches : at < 1020 * (n + 1)) (begins : 1020 * n < at + length before) (copied : after ≡ with_part (before_page at n) (page_piece at n (length before) page) before) where
  piece_long : length (page_piece at n (length before) page) ≡ min (before_page at (n + 1) - before_page at n) (length before - before_page at n)
  piece_long = rw (length-take, length-drop, long) (omega arith)

  pub copied-front : take (before_page at n) after ≡ take (before_page at n) before
  copied-front = rw copied (with_part-front (before_page at n) (page_piece at n (length before) page) before (omega arith))

  pub copied-rest : drop (before_page at (n + 1)) after ≡ drop (before_page at (n + 1)) before
  copied-rest =
      let width = piece_long in
      rw copied (with_part-rest (before_page at n) (before_page at (n + 1)) (page_piece at n (length before) page) before (omega arith) (omega arith))

  pub copied-piece : (held : Option (List ℕ)) → IfSome held (λ file. n < length file / 1024) → IfSome held (λ file. page ≡ page_of file n) → IfSome held (λ file. SameBetween (before_page at n) (before_page at (n + 1)) after (take (length before) (drop at (logical file))))
  copied-piece None has bytes = tt
  copied-piece (Some file) has bytes =
      ap (λ (xs : List ℕ). take (before_page at (n + 1) - before_page at n) (drop (before_page at n) xs)) copied
      ∙ (with_part-between (before_page at n) (before_page at (n + 1)) (page_piece at n (length before) page) before (omega arith) piece_long
      ∙ (ap (λ (p : List ℕ). page_piece at n (length before) p) bytes ∙ sym (wanted_between file at n (length before) has reaches begins)))

-- the open file has page n
pub told_has : (held : Option (List ℕ)) (known : Option ℕ) (size n : ℕ) → IfSome held (λ file. known ≡ Some (length file)) → known ≡ Some size → n < size / 1024 → IfSome held (λ file. n < length file / 1024)
told_has None known size n law is below = tt
told_has (Some file) known size n law is below = let same : length file ≡ size = cc in rw same below

-- A piece of page n was copied.
pub reads_piece : (old new : SourceView) (kept now : List ℕ) (at n high size : ℕ) (page before after : List ℕ) → KeepsTo kept n (n + 1) high now → HoldsSize old → old.size ≡ Some size → n < size / 1024 → at < 1020 * (n + 1) → 1020 * n < at + length before → length page ≡ 1024 → AsksFor old (unless_kept kept n) new → IsPage new n page → after ≡ with_part (before_page at n) (page_piece at n (length before) page) before → ReadsPiece old kept at n high before after new now
reads_piece old new kept now at n high size page before after keeps law is below reaches begins long asked is_page copied =
    let same : new.held ≡ old.held = asked.same.held in
    let bytes : IfSome old.held (λ file. page ≡ page_of file n) = told_later new.held old.held n page (sym same) is_page.bytes in
    record {
      source = asked;
      keeps = keeps;
      right = told_right old.held n page bytes is_page.right;
      front = copied-front at n page before after long reaches begins copied;
      piece = copied-piece at n page before after long reaches begins copied old.held (told_has old.held old.size size n law is below) bytes;
      rest = copied-rest at n page before after long reaches begins copied;
    }

-- nothing was read yet
told_start : (held : Option (List ℕ)) (at : ℕ) (before : List ℕ) → IfSome held (λ file. pages_fault file (at / 1020) (at / 1020 - at / 1020) ≡ None)
told_start None at before = tt
told_start (Some file) at before = let none : at / 1020 - at / 1020 ≡ 0 = omega arith in rw (none, pages_fault-zero)

told_nothing : (held : Option (List ℕ)) (at size : ℕ) (before : List ℕ) → IfSome held (λ file. take (before_page at (at / 1020)) before ≡ take (before_page at (at / 1020)) (take size (drop at (logical file))))
told_nothing None at size before = tt
told_nothing (Some file) at size before = let none : before_page at (at / 1020) ≡ 0 = omega arith in rw none

pub has_read_none : (source : SourceView) (kept : List ℕ) (at high : ℕ) (before : List ℕ) → HasRead source kept at (at / 1020) high before before source kept
has_read_none source kept at high before =
    record {
      source = ([], tt, tt, asks_for_none source);
      keeps = keeps_none kept (at / 1020) high;
      right = told_start source.held at before;
      bytes = told_nothing source.held at (length before) before;
      rest = refl;
    }

-- one page more was read
told_right_more : (held : Option (List ℕ)) (first n : ℕ) → first ≤ n → IfSome held (λ file. pages_fault file first (n - first) ≡ None) → IfSome held (λ file. page_fault file n ≡ None) → IfSome held (λ file. pages_fault file first (n + 1 - first) ≡ None)
told_right_more None first n begun before this = tt
told_right_more (Some file) first n begun before this =
    let more : n + 1 - first ≡ n - first + 1 = omega arith in
    let place : first + (n - first) ≡ n = omega arith in
    rw more (pages_fault-more file first (n - first) before (rw place this))

told_bytes_more : (held : Option (List ℕ)) (at n size : ℕ) (between after : List ℕ) → take (before_page at n) after ≡ take (before_page at n) between → IfSome held (λ file. take (before_page at n) between ≡ take (before_page at n) (take size (drop at (logical file)))) → IfSome held (λ file. SameBetween (before_page at n) (before_page at (n + 1)) after (take size (drop at (logical file)))) → IfSome held (λ file. take (before_page at (n + 1)) after ≡ take (before_page at (n + 1)) (take size (drop at (logical file))))
told_bytes_more None at n size between after front bytes piece = tt
told_bytes_more (Some file) at n size between after front bytes piece =
    take_on (before_page at n) (before_page at (n + 1)) after (take size (drop at (logical file))) (omega arith) (front ∙ bytes) piece

-- page n is asked for, unless it is kept
asks_more : (kept now : List ℕ) (low n high : ℕ) (old mid new : SourceView) → low ≤ n → n < high → AsksUnkept kept low n old mid → KeepsTo kept low n high now → AsksFor mid (unless_kept now n) new → AsksUnkept kept low (n + 1) old new
asks_more kept now low n high old mid new begun below (pages, rises, unkept, asks) keeps more = by_cases (is_kept now n) refl where
  by_cases : (b : Bool) → is_kept now n ≡ b → AsksUnkept kept low (n + 1) old new
  by_cases true is =
      let none : AsksFor mid [] new = subst (λ (b : Bool). AsksFor mid (if b then [] else n ∷ []) new) is more in (
        pages ++ [],
        rises_on low n (n + 1) pages [] begun (omega arith) rises tt,
        unkept_on kept pages [] unkept tt,
        asks_for_on pages [] asks none,
      )
  by_cases false is =
      let this : AsksFor mid (n ∷ []) new = subst (λ (b : Bool). AsksFor mid (if b then [] else n ∷ []) new) is more in
      let unkept_before : is_kept kept n ≡ false = sym (keeps.later n (omega arith) below) ∙ is in (
        pages ++ n ∷ [],
        rises_on low n (n + 1) pages (n ∷ []) begun (omega arith) rises (omega arith, omega arith, tt),
        unkept_on kept pages (n ∷ []) unkept (unkept_before, tt),
        asks_for_on pages (n ∷ []) asks this,
      )

pub has_read_more : (old mid new : SourceView) (kept now next : List ℕ) (at n high : ℕ) (before between after : List ℕ) → at / 1020 ≤ n → n < high → length between ≡ length before → HasRead old kept at n high before between mid now → ReadsPiece mid now at n high between after new next → HasRead old kept at (n + 1) high before after new next
has_read_more old mid new kept now next at n high before between after begun below long read piece =
    let same : mid.held ≡ old.held = read.source.3.same.held in
    let right : IfSome old.held (λ file. page_fault file n ≡ None) = subst (λ (held : Option (List ℕ)). IfSome held (λ file. page_fault file n ≡ None)) same piece.right in
    let bytes : IfSome old.held (λ file. SameBetween (before_page at n) (before_page at (n + 1)) after (take (length before) (drop at (logical file)))) =
    subst (λ (size : ℕ). IfSome old.held (λ file. SameBetween (before_page at n) (before_page at (n + 1)) after (take size (drop at (logical file))))) long
    (subst (λ (held : Option (List ℕ)). IfSome held (λ file. SameBetween (before_page at n) (before_page at (n + 1)) after (take (length between) (drop at (logical file))))) same piece.piece)
    in
    record {
      source = asks_more kept now (at / 1020) n high old mid new begun below read.source read.keeps piece.source;
      keeps = keeps_on kept now next (at / 1020) n (n + 1) high begun (omega arith) read.keeps piece.keeps;
      right = told_right_more old.held (at / 1020) n begun read.right right;
      bytes = told_bytes_more old.held at n (length before) between after piece.front read.bytes bytes;
      rest = piece.rest ∙ drop_on (before_page at n) (before_page at (n + 1)) between before (omega arith) read.rest;
    }

-- the pages of a span reach its end, and no further
pub end_reaches : (at size : ℕ) → size ≤ before_page at (span_end at size)
end_reaches at size = grind (arith, nat_tests)

pub page_short : (at size n : ℕ) → at / 1020 ≤ n → n < span_end at size → before_page at n < size
page_short at size n begun below = grind (arith, nat_tests)

pub page_within : (at size pages n : ℕ) → at + size ≤ pages * 1020 → at / 1020 ≤ n → n < span_end at size → n < pages
page_within at size pages n fits begun below = let short = page_short at size n begun below in omega arith

-- all was read
told_all : (held : Option (List ℕ)) (at high size : ℕ) (after : List ℕ) → length after ≡ size → size ≤ high → IfSome held (λ file. take high after ≡ take high (take size (drop at (logical file)))) → IfSome held (λ file. after ≡ take size (drop at (logical file)))
told_all None at high size after long reaches bytes = tt
told_all (Some file) at high size after long reaches bytes =
    sym (take_all high after (omega arith)) ∙ (bytes ∙ take_all high (take size (drop at (logical file))) (rw length-take (omega arith)))

pub has_read_all : (old new : SourceView) (kept now : List ℕ) (at n : ℕ) (before after : List ℕ) → length after ≡ length before → n ≡ span_end at (length before) → HasRead old kept at n n before after new now → ReadsRange old kept at (length before) after new now
has_read_all old new kept now at n before after long is read =
    record {
      source = subst (λ (high : ℕ). AsksUnkept kept (at / 1020) high old new) is read.source;
      keeps = subst (λ (high : ℕ). KeepsTo kept (at / 1020) high high now) is read.keeps;
      right = subst (λ (high : ℕ). IfSome old.held (λ file. pages_fault file (at / 1020) (high - at / 1020) ≡ None)) is read.right;
      bytes = told_all old.held at (before_page at n) (length before) after long (subst (λ (high : ℕ). length before ≤ before_page at high) (sym is) (end_reaches at (length before))) read.bytes;
    }

-- a page stopped the read
told_cut : (held : Option (List ℕ)) (at done size : ℕ) (after : List ℕ) → done ≤ size → IfSome held (λ file. take done after ≡ take done (take size (drop at (logical file)))) → IfSome held (λ file. take done after ≡ take done (drop at (logical file)))
told_cut None at done size after fits bytes = tt
told_cut (Some file) at done size after fits bytes = bytes ∙ take-take done size (drop at (logical file)) fits

pub is_cut : (old mid new : SourceView) (kept now : List ℕ) (at n high : ℕ) (before after : List ℕ) (found : ReadFault) → at / 1020 ≤ n → n < high → high ≡ span_end at (length before) → is_kept now n ≡ false → before_page at n < length before → HasRead old kept at n high before after mid now → IsNotFetched mid n found new → IsCutAt old kept at before (record { done = before_page at n; fault = found }) after n new now
is_cut old mid new kept now at n high before after found begun below is other begins read failed =
    let pages = read.source.0 in
    let unkept_before : is_kept kept n ≡ false = sym (read.keeps.later n (omega arith) below) ∙ other in
    record {
      source = (
        pages,
        rises_on (at / 1020) n (n + 1) pages (n ∷ []) begun (omega arith) read.source.1 (omega arith, omega arith, tt),
        unkept_on kept pages (n ∷ []) read.source.2 (unkept_before, tt),
        asks_for_on pages (n ∷ []) read.source.3 failed.source,
      );
      keeps = subst (λ (end : ℕ). KeepsTo kept (at / 1020) n end now) is read.keeps;
      short = omega arith;
      done = refl;
      place = omega arith;
      right = read.right;
      bytes = told_cut old.held at (before_page at n) (length before) after (omega arith) read.bytes;
      rest = read.rest;
      cause = is_stopped_before old mid new pages n found read.source.3 failed.cause;
    }
