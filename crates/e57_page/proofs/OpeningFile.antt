-- A file is opened by its name, and its page 0 is judged.
use Rattle.std.proofs.Common.{◌≡◌, ℕ, Bool, true, false, cond, List, [], length, Option, Some, None, Result, Ok, Err, inl, inr, refl, sym, ap, subst, ◌∙◌, arith}
use Rattle.std.specs.Prelude.{MatchOption, MatchResult}
use Rattle.std.specs.Option.{option_or}
use Rattle.e57_base.proofs.CountLaws.{rose_before}
use Rattle.e57_base.specs.Fault.{fault}
use Rattle.e57_base.specs.Source.{SourceView, HoldsSize, Opens, Asks}
use Rattle.e57_base.proofs.SourceLaws.{same_file, asks_none}
use Rattle.e57_base.proofs.OpeningLaws.{opens_once, is_open}
use Rattle.e57_base.proofs.Told.{told_map, told_here, length_told}
use Rattle.e57_base.specs.declared.fault.Failed.{Failed}
use Rattle.e57_base.specs.declared.fault.Fault.{Fault}
use Rattle.e57_base.specs.declared.fault.ReadFault.{ReadFault}
use Rattle.e57_base.specs.declared.fault.ReadFault.TheVariants.{Refused, Source}
use Rattle.e57_base.specs.declared.kind.Kind.TheVariants.{FileLength}
use Rattle.e57_page.specs.declared.header.Header.{Header}
use Rattle.e57_page.specs.Header.{header_of}
use Rattle.e57_page.specs.File.{length_fault, opening_fault}
use Rattle.e57_page.specs.Pages.{Reading, AsksFor, is_opening_kind, IsOpened, IsNotOpened, IsRefusedByPage}
use Rattle.e57_page.specs.Opening.{IsOpenedFile, IsRefusedFile, IsLostFile, IsUnopenedFile}

-- what is asked for after an opening is what is asked for
asked_here : (before now new : Option (List ℕ)) (pages : List ℕ) → now ≡ before → Asks now pages new → Asks before pages new
asked_here before now new pages same asks = subst (λ (log : Option (List ℕ)). Asks log pages new) same asks

-- the fault of a length is one that an opening can have
length_kind : (n : ℕ) (found : Fault) → length_fault n ≡ Some found → is_opening_kind found.kind ≡ true
unfolding length_fault
length_kind n found e = length_kinds _ _ found e where
  length_kinds : (wrong : Bool) (size : ℕ) (found : Fault) → cond wrong (Some (fault FileLength size 0)) None ≡ Some found → is_opening_kind found.kind ≡ true
  length_kinds true size found e = let is : fault FileLength size 0 ≡ found = cc in subst (λ (f : Fault). is_opening_kind f.kind ≡ true) is refl
  length_kinds false size found e = absurd cc

first_is : (a b : Option Fault) (found : Fault) → a ≡ Some found → option_or a b ≡ Some found
first_is a b found e = rw e refl

opened_file : (old mid new : SourceView) (name : List ℕ) (size told : ℕ) (header : Header) → Opens old name (Ok size) mid → HoldsSize mid → IsOpened mid size told header new → IsOpenedFile name old told header new
opened_file old mid new name size told header opens holds opened =
    let same = opened.source.same in
    record {
      opens = opens_once opens same opened.source.faults;
      file = is_open old mid new name size opens same;
      size_is = let still : new.size ≡ Some size = same.size ∙ opens.size in rw opened.length still;
      asked = asked_here old.asked mid.asked new.asked _ opens.asked opened.source.asked;
      whole = ap length_fault opened.length ∙ opened.sound;
      sound = told_here (λ file. opening_fault file ≡ None) mid.held new.held same.held opened.first;
      long = told_here (λ file. length file ≡ told) mid.held new.held same.held (told_map (λ file. length file ≡ size) (λ file. length file ≡ told) mid.held (λ file is. is ∙ sym opened.length) (length_told mid.held mid.size size holds opens.size));
      read = told_here (λ file. header ≡ header_of file) mid.held new.held same.held opened.read;
    }

refused_file : (old mid new : SourceView) (name : List ℕ) (size : ℕ) (found : Fault) → Opens old name (Ok size) mid → HoldsSize mid → IsNotOpened mid size (Refused found) new → IsRefusedFile name old found new
refused_file old mid new name size found opens holds refused = elim (length_fault size) as (λ (l : Option Fault). length_fault size ≡ l → MatchOption l (IsRefusedByPage mid found new) (λ wrong. (found ≡ wrong) × AsksFor mid [] new) → IsRefusedFile name old found new) [
  | None ↦ λ none page. record {
    opens = opens_once opens page.source.same page.source.faults;
    file = is_open old mid new name size opens page.source.same;
    asked = inr (asked_here old.asked mid.asked new.asked _ opens.asked page.source.asked, (size, page.source.same.size ∙ opens.size, none));
    kind = page.kind;
    first = told_here (λ file. opening_fault file ≡ Some found) mid.held new.held page.source.same.held page.first;
  }
  | Some wrong ↦ λ some length_wrong. record {
    opens = opens_once opens length_wrong.1.same length_wrong.1.faults;
    file = is_open old mid new name size opens length_wrong.1.same;
    asked = inl (asked_here old.asked mid.asked new.asked _ opens.asked length_wrong.1.asked);
    kind = length_kind size found (some ∙ ap Some (sym length_wrong.0));
    first = told_here (λ file. opening_fault file ≡ Some found) mid.held new.held length_wrong.1.same.held (told_map (λ file. length file ≡ size) (λ file. opening_fault file ≡ Some found) mid.held
        (λ file same_length. first_is (length_fault (length file)) _ found (ap length_fault same_length ∙ (some ∙ ap Some (sym length_wrong.0))))
        (length_told mid.held mid.size size holds opens.size));
  }
] refl refused

source_lost : (old mid new : SourceView) (name : List ℕ) (size : ℕ) → Opens old name (Ok size) mid → IsNotOpened mid size Source new → IsLostFile name old new
source_lost old mid new name size opens lost =
    record {
      opens = opens_once opens lost.2.same lost.2.faults;
      asked = inr (asked_here old.asked mid.asked new.asked _ opens.asked lost.2.asked, (size, lost.2.same.size ∙ opens.size, lost.0));
      cause = rose_before old.faults mid.faults new.faults opens.faults lost.1;
    }

pub name_lost : (old new : SourceView) (name : List ℕ) (e : Failed) → Opens old name (Err e) new → IsLostFile name old new
name_lost old new name e opens =
    record {
      opens = opens_once opens (same_file new) (omega arith);
      asked = inl (rw opens.asked (asks_none old.asked));
      cause = opens.cause;
    }

file_unopened : (old mid new : SourceView) (name : List ℕ) (size : ℕ) (found : ReadFault) → Opens old name (Ok size) mid → HoldsSize mid → IsNotOpened mid size found new → IsUnopenedFile name old found new
file_unopened old mid new name size (Refused found) opens holds refused = refused_file old mid new name size found opens holds refused
file_unopened old mid new name size Source opens holds lost = source_lost old mid new name size opens lost

-- what judging page 0 answered is what opening by name answers
pub opening_ends : {S : Type 0} (view : S → SourceView) (old mid : SourceView) (name : List ℕ) (size : ℕ) (result : Result (Reading S) (S × ReadFault)) → Opens old name (Ok size) mid → HoldsSize mid → MatchResult result (λ pages. IsOpened mid size pages.length pages.header (view pages.source)) (λ refusal. IsNotOpened mid size refusal.1 (view refusal.0)) → MatchResult result (λ pages. IsOpenedFile name old pages.length pages.header (view pages.source)) (λ refusal. IsUnopenedFile name old refusal.1 (view refusal.0))
opening_ends view old mid name size (Ok pages) opens holds opened = opened_file old mid (view pages.source) name size pages.length pages.header opens holds opened
opening_ends view old mid name size (Err refusal) opens holds refused = file_unopened old mid (view refusal.0) name size refusal.1 opens holds refused
