-- Laws of the calls that read pages: one after another.
use Rattle.std.specs.Prelude.{◌≡◌, ℕ, ◌+◌, ◌-◌, ◌/◌, ◌<◌, ◌≤◌, true, List, [], ◌∷◌, ◌++◌, length, Option, Some, None, IfSome, IsSomeAnd}
use Rattle.std.proofs.Common.{sym, subst, arith}
use Rattle.std.proofs.lemmas.Bool.Decides.{nat_tests}
use Rattle.e57_base.specs.Count.{Rose}
use Rattle.e57_base.proofs.CountLaws.{rose_before}
use Rattle.e57_base.specs.Source.{SourceView, HasPage, HoldsSize}
use Rattle.e57_base.proofs.SourceLaws.{same_file, same_file_on, asks_none, asks_on}
use Rattle.e57_base.specs.declared.fault.ReadFault.{ReadFault}
use Rattle.e57_base.specs.declared.fault.ReadFault.TheVariants.{Refused, Source}
use Rattle.e57_base.specs.declared.fault.Fault.{Fault}
use Rattle.e57_page.specs.declared.pages.Cut.{Cut}
use Rattle.e57_page.specs.File.{page_fault, pages_fault, span_fault}
use Rattle.e57_page.proofs.FileLaws.{pages_fault-found}
use Rattle.e57_page.specs.Place.{span_end}
use Rattle.e57_page.proofs.PlaceLaws.{rises_from_lower, rises_to_higher, rises_on}
use Rattle.e57_page.specs.Kept.{is_kept}
use Rattle.e57_page.proofs.KeptLaws.{rises_from_unkept}
use Rattle.e57_page.specs.Pages.{AsksFor, AsksWithin, AsksUnkept, AsksUpTo, IsStopped, IsCutAt}

-- nothing was asked for
pub asks_for_none : (source : SourceView) → AsksFor source [] source
asks_for_none source = record { same = same_file source; asked = asks_none source.asked; faults = omega arith }

-- first these pages, and then those
pub asks_for_on : {a b c : SourceView} (first next : List ℕ) → AsksFor a first b → AsksFor b next c → AsksFor a (first ++ next) c
asks_for_on {a} {b} {c} first next f g =
    record {
      same = same_file_on f.same g.same;
      asked = asks_on a.asked b.asked c.asked first next f.asked g.asked;
      faults = omega arith;
    }

-- what stopped a later call is what it is seen from before
pub is_stopped_before : (a b c : SourceView) (first : List ℕ) (n : ℕ) (found : ReadFault) → AsksFor a first b → IsStopped b n found c → IsStopped a n found c
is_stopped_before a b c first n (Refused found) f stopped = (stopped.0, subst (λ (held : Option (List ℕ)). IfSome held (λ file. page_fault file n ≡ Some found)) f.same.held stopped.1)
is_stopped_before a b c first n Source f stopped = rose_before a.faults b.faults c.faults f.faults stopped

-- an open file of this size has these pages
pub has_page : (source : SourceView) (size n : ℕ) → source.size ≡ Some size → n < size / 1024 → HasPage source n
has_page source size n is below = subst (λ (found : Option ℕ). IsSomeAnd found (λ s. n < s / 1024)) (sym is) below

-- an open file that is told has the size that its source tells
pub size_of_held : (source : SourceView) (size : ℕ) → HoldsSize source → source.size ≡ Some size → IfSome source.held (λ file. length file ≡ size)
size_of_held source size law is = told source.held source.size law is
  where
    told : (held : Option (List ℕ)) (known : Option ℕ) → IfSome held (λ file. known ≡ Some (length file)) → known ≡ Some size → IfSome held (λ file. length file ≡ size)
    told None known law is = tt
    told (Some file) known law is = cc

-- ---- the pages that reads ask for

-- nothing was asked for
pub asks_within_none : (low high : ℕ) (source : SourceView) → AsksWithin low high source source
asks_within_none low high source = ([], tt, asks_for_none source)

pub asks_unkept_none : (kept : List ℕ) (low high : ℕ) (source : SourceView) → AsksUnkept kept low high source source
asks_unkept_none kept low high source = ([], tt, tt, asks_for_none source)

-- what was asked for is within the range
pub asks_unkept_within : (kept : List ℕ) (low high : ℕ) (old new : SourceView) → AsksUnkept kept low high old new → AsksWithin low high old new
asks_unkept_within kept low high old new (pages, rises, unkept, asks) = (pages, rises, asks)

-- the same of a wider range
pub asks_within_wider : (low' low high high' : ℕ) (old new : SourceView) → low' ≤ low → high ≤ high' → AsksWithin low high old new → AsksWithin low' high' old new
asks_within_wider low' low high high' old new below above (pages, rises, asks) =
    (pages, rises_from_lower low' low high' pages below (rises_to_higher low high high' pages above rises), asks)

pub asks_unkept_wider : (kept : List ℕ) (low' low high high' : ℕ) (old new : SourceView) → low' ≤ low → high ≤ high' → AsksUnkept kept low high old new → AsksUnkept kept low' high' old new
asks_unkept_wider kept low' low high high' old new below above (pages, rises, unkept, asks) =
    (pages, rises_from_lower low' low high' pages below (rises_to_higher low high high' pages above rises), unkept, asks)

-- a read of a range, and then one of a range behind it
pub asks_within_on : (low mid high : ℕ) (a b c : SourceView) → low ≤ mid → mid ≤ high → AsksWithin low mid a b → AsksWithin mid high b c → AsksWithin low high a c
asks_within_on low mid high a b c below above (first, rises, asks) (next, rises_too, asks_too) =
    (first ++ next, rises_on low mid high first next below above rises rises_too, asks_for_on first next asks asks_too)

-- pages that are kept at the start of a range aren't asked for
pub asks_unkept_from : (kept : List ℕ) (low mid high : ℕ) (old new : SourceView) → ((k : ℕ) → low ≤ k → k < mid → is_kept kept k ≡ true) → AsksUnkept kept low high old new → AsksUnkept kept mid high old new
asks_unkept_from kept low mid high old new are_kept (pages, rises, unkept, asks) = (pages, rises_from_unkept kept low mid high pages are_kept rises unkept, unkept, asks)

-- the pages up to one that stopped a read
pub asks_up_to_within : (kept : List ℕ) (low n high : ℕ) (old new : SourceView) → n < high → AsksUpTo kept low n old new → AsksUnkept kept low high old new
asks_up_to_within kept low n high old new below (pages, rises, unkept, asks) =
    (pages ++ n ∷ [], rises_to_higher low (n + 1) high (pages ++ n ∷ []) (omega arith) rises, unkept, asks)

-- ---- a range that was cut

-- the page that stopped a read is one of the range's
pub cut_below : (at done count n : ℕ) → done < count → n ≡ (at + done) / 1020 → n < span_end at count
cut_below at done count n short place = grind (arith, nat_tests)

-- what a read that was cut asked for is within its range
pub cut_asks : (old new : SourceView) (kept now : List ℕ) (at n : ℕ) (before after : List ℕ) (cut : Cut) → IsCutAt old kept at before cut after n new now → AsksUnkept kept (at / 1020) (span_end at (length before)) old new
cut_asks old new kept now at n before after cut is =
    asks_up_to_within kept (at / 1020) n (span_end at (length before)) old new (cut_below at cut.done (length before) n is.short is.place) is.source

-- a read that was cut by a wrong page found the first fault of its range
pub cut_fault : (old new : SourceView) (kept now : List ℕ) (at n : ℕ) (before after : List ℕ) (cut : Cut) (found : Fault) → cut.fault ≡ Refused found → IsCutAt old kept at before cut after n new now → IfSome old.held (λ file. span_fault file at (length before) ≡ Some found)
cut_fault old new kept now at n before after cut found refused is =
    let wrong = subst (λ (fault : ReadFault). IsStopped old n fault new) refused is.cause in
    let place = is.place in
    told old.held (omega (arith, place)) (cut_below at cut.done (length before) n is.short is.place) is.right wrong.1
  where
    told : (held : Option (List ℕ)) → at / 1020 ≤ n → n < span_end at (length before) → IfSome held (λ file. pages_fault file (at / 1020) (n - at / 1020) ≡ None) → IfSome held (λ file. page_fault file n ≡ Some found) → IfSome held (λ file. span_fault file at (length before) ≡ Some found)
    told None begun below right wrong = tt
    told (Some file) begun below right wrong =
        let here : at / 1020 + (n - at / 1020) ≡ n = omega arith in
        pages_fault-found file (at / 1020) (n - at / 1020) (span_end at (length before) - at / 1020) found right (rw here wrong) (omega (arith, below, begun))

-- a read that was cut by the source found that it failed
pub cut_source : (old new : SourceView) (kept now : List ℕ) (at n : ℕ) (before after : List ℕ) (cut : Cut) → cut.fault ≡ Source → IsCutAt old kept at before cut after n new now → Rose old.faults new.faults
cut_source old new kept now at n before after cut failed is = subst (λ (fault : ReadFault). IsStopped old n fault new) failed is.cause
