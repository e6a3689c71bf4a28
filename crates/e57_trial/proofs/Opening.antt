-- A file in memory that is opened, and calls on it that can want nothing but memory.
use Rattle.std.proofs.Common.{◌≡◌, ℕ, Bool, true, false, List, [], length, Option, Some, None, refl, sym, subst, ap, ◌∙◌, arith}
use Rattle.std.specs.Prelude.{if◌then◌else◌, MatchOption}
use Rattle.std.proofs.lemmas.Option.{same_Some}
use Rattle.e57_base.specs.BytesSource.{BytesState, initial_bytes, bytes_view, after_open}
use Rattle.e57_base.specs.Count.{Rose}
use Rattle.e57_base.specs.Fault.{open_as_run}
use Rattle.e57_base.specs.Source.{SameFile}
use Rattle.e57_base.specs.declared.fault.Fault.{Fault}
use Rattle.e57_base.specs.declared.fault.ReadFault.{ReadFault}
use Rattle.e57_base.specs.declared.fault.ReadFault.TheVariants as of_read
use Rattle.e57_base.specs.declared.fault.OpenFault.{OpenFault}
use Rattle.e57_base.specs.declared.fault.OpenFault.TheVariants as of_open
use Rattle.e57_base.proofs.Options.{option_or_parts}
use Rattle.e57_base.proofs.Told.{told_is}
use Rattle.e57_page.specs.declared.header.Header.{Header}
use Rattle.e57_page.specs.File.{length_fault, opening_fault, page_fault, logical_size}
use Rattle.e57_page.specs.Header.{header_fault, header_of}
use Rattle.e57_page.specs.Pages.{IsOpened, IsNotOpened, IsRefusedByPage, AsksFor}
use Rattle.e57_page.specs.XmlSection.{xml_span_fault}
use Rattle.std.specs.Option.{option_or}
use Rattle.e57_cloud.specs.Cloud.{Cloud, cloud_fault}
use Rattle.e57_verdict.specs.Things.{cloud_thing}
use Rattle.e57_verdict.specs.Verdict.{Verdict, accepted, refused, all_pages_fault, IsVerdict}
use Rattle.e57_verdict.proofs.Laws.Opening.{before-opening}
use Rattle.e57_verdict.proofs.Laws.Verdicts.{content-accepted}
use Rattle.e57_check.specs.Checking.{IsRejection}
use Rattle.e57_repack.specs.Widening.{IsItemCause}
use Rattle.e57_trial.specs.Accepted.{HasOpen, IsAccepted, IsWant}

-- ---- the source

pub open-told : (source : BytesState) (file : List ℕ) → (bytes_view source).held ≡ Some file → HasOpen file source
open-told source file told = by_flag source.is_open refl told where
  by_flag : (b : Bool) → source.is_open ≡ b → ◌≡◌ {A = Option (List ℕ)} (if b then Some source.bytes else None) (Some file) → HasOpen file source
  by_flag true is told = record { is_open = is; same_bytes = same_Some source.bytes file told }
  by_flag false is told = absurd cc

pub told-open : (source : BytesState) (file : List ℕ) → HasOpen file source → (bytes_view source).held ≡ Some file
told-open source file has = ap (λ (b : Bool). if b then Some source.bytes else None) has.is_open ∙ ap (λ (bytes : List ℕ). Some bytes) has.same_bytes

-- the file stays open
pub still-open : (old new : BytesState) (file : List ℕ) → HasOpen file old → SameFile (bytes_view old) (bytes_view new) → HasOpen file new
still-open old new file has same = open-told new file (same.held ∙ told-open old file has)

pub opened-bytes : (source : BytesState) (file : List ℕ) → source ≡ after_open (initial_bytes file) → HasOpen file source
unfolding after_open
opened-bytes source file is = record { is_open = ap (λ (s : BytesState). s.is_open) is; same_bytes = ap (λ (s : BytesState). s.bytes) is }

-- it never fails
pub never-rose : Rose 0 0 → ⊥
never-rose rose = absurd (omega arith)

-- ---- an accepted file is opened

fault-never : (o : Option Fault) (found : Fault) → o ≡ Some found → o ≡ None → ⊥
fault-never o found some none = cc

opening-right : (file : List ℕ) → IsAccepted file → opening_fault file ≡ None
opening-right file (content, is) =
    (option_or_parts (opening_fault file) (option_or (all_pages_fault file) (xml_span_fault (header_of file) (logical_size file))) (sym (before-opening file) ∙ is.is_sound.has_tree.sound)).0

pub not-refused : (file : List ℕ) (size : ℕ) (source now : BytesState) (fault : ReadFault) → IsAccepted file → HasOpen file source → size ≡ length file → IsNotOpened (bytes_view source) size fault (bytes_view now) → ⊥
not-refused file size source now (of_read.Refused found) good has sized gives =
    let right = opening-right file good in
    let long : length_fault size ≡ None = ap length_fault sized ∙ (option_or_parts (length_fault (length file)) (option_or (header_fault file (length file)) (page_fault file 0)) right).0 in
    let by_page = subst (λ (o : Option Fault). MatchOption o (IsRefusedByPage (bytes_view source) found (bytes_view now)) (λ wrong. (found ≡ wrong) × AsksFor (bytes_view source) [] (bytes_view now))) long gives in
    fault-never (opening_fault file) found (told_is (λ file. opening_fault file ≡ Some found) (bytes_view source).held file (told-open source file has) by_page.first) right
not-refused file size source now of_read.Source good has sized gives = never-rose gives.1

pub now-open : (file : List ℕ) (size told : ℕ) (header : Header) (source now : BytesState) → HasOpen file source → IsOpened (bytes_view source) size told header (bytes_view now) → HasOpen file now
now-open file size told header source now has opened = still-open source now file has opened.source.same

-- ---- only memory is wanted

-- each file has one verdict
abbrev pub IsOneVerdict : Type 0
IsOneVerdict = (file : List ℕ) (a b : Verdict) → IsVerdict file a → IsVerdict file b → a ≡ b

pub not-rejected : IsOneVerdict → (file : List ℕ) (found : Fault) → IsAccepted file → IsVerdict file (refused found) → ⊥
not-rejected one file found (content, is) fails =
    let gives = content-accepted file content is in
    let same : ◌≡◌ {A = Verdict} (accepted gives.0 gives.1 gives.2) (refused found) = one file (accepted gives.0 gives.1 gives.2) (refused found) gives.3 fails in
    cc

pub want-of-check : IsOneVerdict → (file : List ℕ) (old new : BytesState) (fault : OpenFault) → IsAccepted file → HasOpen file old → IsRejection (bytes_view old) fault (bytes_view new) → IsWant (open_as_run fault)
want-of-check one file old new (of_open.Refused found) good has fails =
    absurd (not-rejected one file found good (told_is (λ file. IsVerdict file (refused found)) (bytes_view old).held file (told-open old file has) fails))
want-of-check one file old new of_open.Source good has rose = absurd (never-rose rose)
want-of-check one file old new of_open.Memory good has x = tt

pub want-of-sum : (file : List ℕ) (c : Cloud) (old new : BytesState) (fault : OpenFault) → HasOpen file old → cloud_fault file c ≡ None → IsItemCause (cloud_thing c) (bytes_view old) fault (bytes_view new) → IsWant (open_as_run fault)
want-of-sum file c old new (of_open.Refused found) has free fails = absurd (told_is (λ file. cloud_fault file c ≡ None → ⊥) (bytes_view old).held file (told-open old file has) fails free)
want-of-sum file c old new of_open.Source has free rose = absurd (never-rose rose)
want-of-sum file c old new of_open.Memory has free x = tt
