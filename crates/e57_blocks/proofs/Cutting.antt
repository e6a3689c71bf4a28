-- Strings that were read into a buffer.
use Rattle.std.specs.Prelude.{◌≡◌, ℕ, zero, suc, ◌+◌, ◌-◌, ◌<◌, ◌≤◌, ◌==◌, ◌⊎◌, min, false, List, ◌++◌, length, take, drop, Result, Some, None, IfSome, MatchResult, Ok, Err}
use Rattle.std.proofs.Common.{refl, sym, subst, ap, ap₂, ◌∙◌, arith, inl, inr}
use Rattle.std.proofs.lemmas.Bool.Decides.{nat_tests}
use Rattle.std.proofs.lemmas.List.{length-take, get_or_append_left}
use Rattle.std.proofs.lemmas.Option.{same_Some}
use Rattle.e57_base.specs.Source.{SourceView}
use Rattle.e57_base.specs.declared.fault.OpenFault.{OpenFault}
use Rattle.e57_base.specs.declared.fault.OpenFault.TheVariants.{Memory}
use Rattle.e57_base.specs.declared.fault.ReadFault.{ReadFault}
use Rattle.e57_base.specs.declared.fault.ReadFault.TheVariants.{Refused, Source}
use Rattle.e57_layout.specs.Strings.{string_limit}
use Rattle.e57_layout.specs.Values.{ItemKind, strings, octets}
use Rattle.e57_stream.proofs.AskingLaws.{asks_met_none}
use Rattle.e57_stream.specs.Window.{held_bytes}
use Rattle.e57_texts.specs.Reading.{begin_of, end_of, string_held, FillsTexts}
use Rattle.e57_column.specs.declared.state.State.{State}
use Rattle.e57_column.specs.declared.texts.TextsRead.{TextsRead}
use Rattle.e57_column.specs.Column.{kind_of, placed, wanted, column_item, StandsIn}
use Rattle.e57_column.specs.Reading.{OnRecords, AsksRecords}
use Rattle.e57_column.specs.Texts.{TooLong, left_over, Leaves, ReadsTexts, StopsTexts}
use Rattle.e57_blocks.specs.declared.buffer.Got.{Got}
use Rattle.e57_blocks.specs.Block.{IsKept, AreKept, AreCut}
use Rattle.e57_blocks.specs.Filling.{IsGrown, PlacedAt, got_of, GetsNot, GetsTexts}
use Rattle.e57_blocks.proofs.Getting.{wanted_all, still_none, still_some, asks_wider, asks_on, long_on, gets_same, size_front, gets_on, gets_not_on}
use Rattle.e57_base.proofs.Told.{told_all}
use Rattle.e57_column.proofs.Joining.{placed-is, field-on, stands-on}

-- ---- strings one behind another

held_short : (bytes : List ℕ) (begin end most : ℕ) → end ≤ begin + most → length (held_bytes bytes begin end) ≤ most
held_short bytes begin end most short =
    let size = length-take (end - begin) (drop begin bytes) in
    omega (arith, size, short)

texts_kept : (kind : ItemKind) (n : ℕ) (bytes bytes' ends ends' : List ℕ) → kind ≡ strings → FillsTexts 0 n bytes bytes' ends ends' → AreKept kind n (λ k. octets (string_held 0 bytes' ends' k))
texts_kept kind n bytes bytes' ends ends' is fills k below =
    subst (λ (kind : ItemKind). IsKept kind (octets (string_held 0 bytes' ends' k))) (sym is) (held_short bytes' (begin_of 0 ends' k) (end_of ends' k) string_limit (fills.short k below))

texts_cut : (n : ℕ) (bytes bytes' ends ends' : List ℕ) → FillsTexts 0 n bytes bytes' ends ends' → AreCut n bytes' ends'
texts_cut n bytes bytes' ends ends' fills k below = (fills.order k below, fills.inside k below)

-- ---- how many were read

need_some : (count n : ℕ) → (left_over count n).need ≡ None → 0 < count
need_some zero n none = absurd cc
need_some (suc count) n none = omega arith

need_first : (count n m : ℕ) → (left_over count n).need ≡ Some m → (count ≡ 0) × (n ≡ m)
need_first zero n m is = (refl, same_Some n m is)
need_first (suc count) n m is = let more : (suc count == 0) ≡ false = grind (arith, nat_tests) in absurd cc

some_read : (old : SourceView) (before : State) (want left : ℕ) (read : TextsRead) → 0 < want → read.need ≡ None → (((read.count ≡ want) × (read.need ≡ None)) ⊎ Leaves old before want left read) → (0 < read.count) × (read.count ≤ want)
some_read old before want left read some none (inl all) = let is = all.0 in (omega (arith, is, some), omega (arith, is))
some_read old before want left read some none (inr l) = let fewer = l.fewer in (need_some read.count l.n (subst (λ (r : TextsRead). r.need ≡ None) l.answer none), omega (arith, fewer))

first_long : (old : SourceView) (before : State) (i want left n : ℕ) (read : TextsRead) → before.chunk.at ≡ i → read.need ≡ Some n → (((read.count ≡ want) × (read.need ≡ None)) ⊎ Leaves old before want left read) → (read.count ≡ 0) × TooLong old before i left n
first_long old before i want left n read at need (inl all) = let none = all.1 in absurd cc
first_long old before i want left n read at need (inr l) =
    let both = need_first read.count l.n n (subst (λ (r : TextsRead). r.need ≡ Some n) l.answer need) in
    let zero = both.0 in
    let place : before.chunk.at + read.count ≡ i = omega (arith, at, zero) in
    (both.0, subst (λ (m : ℕ). TooLong old before i left m) both.1 (subst (λ (a : ℕ). TooLong old before a left l.n) place l.next))

-- ---- from the call of a column

pub texts_get : (old new : SourceView) (before after : State) (i want : ℕ) (read : TextsRead) (bytes bytes' ends ends' : List ℕ) → kind_of before.items ≡ strings → placed before ≡ Some i → 0 < want → i + want ≤ before.stream.section.count → read.need ≡ None
    → ReadsTexts old before (wanted before want) read bytes bytes' ends ends' new after → GetsTexts old before i want (record { count = read.count; fault = None }) bytes' ends' new after
texts_get old new before after i want read bytes bytes' ends ends' kind is_at some left none r =
    let at = (placed-is before i is_at).1 in
    let reads = r.reads in
    let all = wanted_all before i want is_at left in
    let number = some_read old before (wanted before want) (length bytes' - begin_of 0 ends' read.count) read (omega (arith, some, all)) none r.why in
    let few = number.1 in (
      record {
        some = inl number.0;
        few = omega (arith, few, all);
        all = λ e. inr kind;
        same = reads.same;
        met = subst (λ (a : ℕ). AsksRecords old before a want new) at (asks_wider old new before before.chunk.at (min (read.count + 1) (wanted before want)) want (omega (arith, all)) reads.met);
        kept = texts_kept (kind_of before.items) read.count bytes bytes' ends ends' kind r.fills;
        items = subst (λ (a : ℕ). IfSome old.held (λ file. StandsIn file before → (j : ℕ) → j < read.count → column_item file before (a + j) ≡ Ok (octets (string_held 0 bytes' ends' j)))) at reads.items;
        stands = reads.stands;
        behind = reads.is_at ∙ ap (λ (a : ℕ). Some (a + read.count)) at;
      },
      texts_cut read.count bytes bytes' ends ends' r.fills,
    )

pub texts_need : (old new : SourceView) (before after : State) (i want n : ℕ) (read : TextsRead) (bytes bytes' ends ends' : List ℕ) → placed before ≡ Some i → i + want ≤ before.stream.section.count → read.need ≡ Some n
    → ReadsTexts old before (wanted before want) read bytes bytes' ends ends' new after → PlacedAt old before i want new after × TooLong old before i (length bytes') n
texts_need old new before after i want n read bytes bytes' ends ends' is_at left need r =
    let at = (placed-is before i is_at).1 in
    let reads = r.reads in
    let all = wanted_all before i want is_at left in
    let first = first_long old before i (wanted before want) (length bytes' - begin_of 0 ends' read.count) n read at need r.why in
    let none = first.0 in
    let place : before.chunk.at + read.count ≡ i = omega (arith, at, none) in
    let room : length bytes' - begin_of 0 ends' 0 ≡ length bytes' = omega arith in (
      record {
        is_at = reads.is_at ∙ ap Some place;
        same = reads.same;
        met = subst (λ (a : ℕ). AsksRecords old before a want new) at (asks_wider old new before before.chunk.at (min (read.count + 1) (wanted before want)) want (omega (arith, all)) reads.met);
        stands = reads.stands;
      },
      subst (λ (left : ℕ). TooLong old before i left n) room (subst (λ (c : ℕ). TooLong old before i (length bytes' - begin_of 0 ends' c) n) none first.1),
    )

abbrev pub AnswersTexts : SourceView → State → (i want room : ℕ) → List ℕ → List ℕ → SourceView → State → Result Got OpenFault → Type 0
AnswersTexts old before i want room bytes ends new after r = MatchResult r (λ got. GetsTexts old before i want got bytes ends new after) (λ lost. GetsNot old before i want room lost new after)

pub texts_stop : (old new : SourceView) (before after : State) (i want done room : ℕ) (found : ReadFault) (bytes bytes' ends ends' : List ℕ) → kind_of before.items ≡ strings → placed before ≡ Some i → i + want ≤ before.stream.section.count
    → StopsTexts old before (wanted before want) done found bytes bytes' ends ends' new after → AnswersTexts old before i want room bytes' ends' new after (got_of done found)
texts_stop old new before after i want done room (Refused found) bytes bytes' ends ends' kind is_at left s =
    let at = (placed-is before i is_at).1 in
    let stops = s.stops in
    let below = stops.below in
    let all = wanted_all before i want is_at left in
    let cause = stops.cause in (
      record {
        some = inr refl;
        few = omega (arith, below, all);
        all = λ e. inr kind;
        same = stops.same;
        met = subst (λ (a : ℕ). AsksRecords old before a want new) at (asks_wider old new before before.chunk.at (done + 1) want (omega (arith, below, all)) stops.met);
        kept = texts_kept (kind_of before.items) done bytes bytes' ends ends' kind s.fills;
        items = subst (λ (a : ℕ). IfSome old.held (λ file. StandsIn file before → (j : ℕ) → j < done → column_item file before (a + j) ≡ Ok (octets (string_held 0 bytes' ends' j)))) at stops.items;
        stands = stops.stands;
        behind = (stops.is_at, cause.0, subst (λ (a : ℕ). IfSome old.held (λ file. StandsIn file before → column_item file before (a + done) ≡ Err found)) at cause.1);
      },
      texts_cut done bytes bytes' ends ends' s.fills,
    )
texts_stop old new before after i want done room Source bytes bytes' ends ends' kind is_at left s =
    let at = (placed-is before i is_at).1 in
    let stops = s.stops in
    let below = stops.below in
    let all = wanted_all before i want is_at left in
    record {
      same = stops.same;
      met = subst (λ (a : ℕ). AsksRecords old before a want new) at (asks_wider old new before before.chunk.at (done + 1) want (omega (arith, below, all)) stops.met);
      stands = stops.stands;
      still = still_none i (placed after) stops.is_at;
      cause = stops.cause;
    }

-- ---- the front of the ends

begin_front : (part rest : List ℕ) (k : ℕ) → k ≤ length part → begin_of 0 (part ++ rest) k ≡ begin_of 0 part k
begin_front part rest zero few = refl
begin_front part rest (suc k) few = get_or_append_left part rest 0 k (omega (arith, few))

end_front : (part rest : List ℕ) (k : ℕ) → k < length part → end_of (part ++ rest) k ≡ end_of part k
end_front part rest k few = get_or_append_left part rest 0 k few

pub texts_front : (old new : SourceView) (before after : State) (i want : ℕ) (got : Got) (bytes part rest : List ℕ) → length part ≡ want → GetsTexts old before i want got bytes part new after → GetsTexts old before i want got bytes (part ++ rest) new after
texts_front old new before after i want got bytes part rest size g =
    let few = g.0.few in (
      gets_same old new before after i want got (λ k. octets (string_held 0 bytes part k)) (λ k. octets (string_held 0 bytes (part ++ rest) k))
          (λ k below. ap octets (ap₂ (λ (x y : ℕ). held_bytes bytes x y) (begin_front part rest k (omega (arith, below, size))) (end_front part rest k (omega (arith, below, size))))) g.0,
      λ k below. (
        rw (begin_front part rest k (omega (arith, below, few, size)), end_front part rest k (omega (arith, below, few, size))) (g.1 k below).0,
        rw (end_front part rest k (omega (arith, below, few, size))) (g.1 k below).1,
      ),
    )

texts_fronts : (old new : SourceView) (before after : State) (i want room : ℕ) (bytes part rest : List ℕ) (r : Result Got OpenFault) → length part ≡ want → AnswersTexts old before i want room bytes part new after r → AnswersTexts old before i want room bytes (part ++ rest) new after r
texts_fronts old new before after i want room bytes part rest (Ok got) size a = texts_front old new before after i want got bytes part rest size a
texts_fronts old new before after i want room bytes part rest (Err lost) size a = a

-- ---- strings read to the front of the ends

pub reads_texts : (old new : SourceView) (before after : State) (i want : ℕ) (read : TextsRead) (bytes bytes' ends part : List ℕ) → kind_of before.items ≡ strings → placed before ≡ Some i → 0 < want → i + want ≤ before.stream.section.count → want ≤ length ends → read.need ≡ None
    → ReadsTexts old before (wanted before (length (take want ends))) read bytes bytes' (take want ends) part new after → GetsTexts old before i want (record { count = read.count; fault = None }) bytes' (part ++ drop want ends) new after
reads_texts old new before after i want read bytes bytes' ends part kind is_at some left fits none r =
    let size = size_front ends want fits in
    texts_front old new before after i want (record { count = read.count; fault = None }) bytes' part (drop want ends) (r.fills.same_ends ∙ size)
    (texts_get old new before after i want read bytes bytes' (take want ends) part kind is_at some left none
    (subst (λ (w : ℕ). ReadsTexts old before (wanted before w) read bytes bytes' (take want ends) part new after) size r))

pub needs_texts : (old new : SourceView) (before after : State) (i want n : ℕ) (read : TextsRead) (bytes bytes' ends part : List ℕ) → placed before ≡ Some i → i + want ≤ before.stream.section.count → want ≤ length ends → read.need ≡ Some n
    → ReadsTexts old before (wanted before (length (take want ends))) read bytes bytes' (take want ends) part new after → PlacedAt old before i want new after × TooLong old before i (length bytes') n
needs_texts old new before after i want n read bytes bytes' ends part is_at left fits need r =
    texts_need old new before after i want n read bytes bytes' (take want ends) part is_at left need
    (subst (λ (w : ℕ). ReadsTexts old before (wanted before w) read bytes bytes' (take want ends) part new after) (size_front ends want fits) r)

pub stops_texts : (old new : SourceView) (before after : State) (i want done room : ℕ) (found : ReadFault) (r : Result Got OpenFault) (bytes bytes' ends part : List ℕ) → kind_of before.items ≡ strings → placed before ≡ Some i → i + want ≤ before.stream.section.count → want ≤ length ends → got_of done found ≡ r
    → StopsTexts old before (wanted before (length (take want ends))) done found bytes bytes' (take want ends) part new after → AnswersTexts old before i want room bytes' (part ++ drop want ends) new after r
stops_texts old new before after i want done room found r bytes bytes' ends part kind is_at left fits is s =
    let size = size_front ends want fits in
    texts_fronts old new before after i want room bytes' part (drop want ends) r (s.fills.same_ends ∙ size)
    (subst (λ (r : Result Got OpenFault). AnswersTexts old before i want room bytes' part new after r) is
    (texts_stop old new before after i want done room found bytes bytes' (take want ends) part kind is_at left
    (subst (λ (w : ℕ). StopsTexts old before (wanted before w) done found bytes bytes' (take want ends) part new after) size s)))

-- ---- one try after another

pub placed_first : (source : SourceView) (c : State) (i n : ℕ) → placed c ≡ Some i → PlacedAt source c i n source c
placed_first source c i n is = record {
  is_at = is;
  same = record { stream = refl; items = refl };
  met = asks_met_none (λ file p. StandsIn file c → OnRecords file c i n p) source;
  stands = told_all (λ file. StandsIn file c → StandsIn file c) source.held (λ file is. is);
}

pub placed_on : (old mid new : SourceView) (first second third : State) (i n : ℕ) → PlacedAt old first i n mid second → PlacedAt mid second i n new third → PlacedAt old first i n new third
placed_on old mid new first second third i n p q = record {
  is_at = q.is_at;
  same = field-on first second third p.same q.same;
  met = asks_on old mid new first second i n n (omega arith) p.same p.stands p.met q.met;
  stands = stands-on old mid first second third p.met.asks.same.held p.stands q.stands;
}

-- there is more room now, as much as the string needs
pub grown_more : (old mid : SourceView) (first second : State) (i want room more n : ℕ) → room ≤ more → PlacedAt old first i want mid second → TooLong mid second i more n → IsGrown old first i room n
grown_more old mid first second i want room more n wider p long = inr (long_on old mid first second i room more n p.met.asks.same.held p.same p.stands wider long)

pub texts_on : (old mid new : SourceView) (first second third : State) (i n : ℕ) (got : Got) (bytes ends : List ℕ) → PlacedAt old first i n mid second → GetsTexts mid second i n got bytes ends new third → GetsTexts old first i n got bytes ends new third
texts_on old mid new first second third i n got bytes ends p g = (gets_on old mid new first second third i n n got (λ k. octets (string_held 0 bytes ends k)) (omega arith) p.same p.stands p.met g.0, g.1)

pub texts_not_on : (old mid new : SourceView) (first second third : State) (i n room more : ℕ) (lost : OpenFault) → room ≤ more → PlacedAt old first i n mid second → GetsNot mid second i n more lost new third → GetsNot old first i n room lost new third
texts_not_on old mid new first second third i n room more lost wider p g = gets_not_on old mid new first second third i n n room more lost (omega arith) wider p.same p.stands p.met g

-- there is no memory for a string of so many bytes
pub no_memory : (old mid new : SourceView) (first second third : State) (i n room more size : ℕ) → kind_of first.items ≡ strings → room ≤ more → PlacedAt old first i n mid second → PlacedAt mid second i n new third × TooLong mid second i more size → GetsNot old first i n room Memory new third
no_memory old mid new first second third i n room more size kind wider p q =
    let both = placed_on old mid new first second third i n p q.0 in
    record {
      same = both.same;
      met = both.met;
      stands = both.stands;
      still = still_some i (placed third) both.is_at;
      cause = record { texts = kind; n = size; long = long_on old mid first second i room more size p.met.asks.same.held p.same p.stands wider q.1 };
    }

-- ---- strings of a block

pub texts_after : (old mid new : SourceView) (first second third : State) (i n most room more : ℕ) (bytes xs ys : List ℕ) (r : Result Got OpenFault) → xs ≡ ys → n ≡ most → 0 < n → more ≡ room → PlacedAt old first i 1 mid second → AnswersTexts mid second i n more bytes ys new third r → AnswersTexts old first i most room bytes xs new third r
texts_after old mid new first second third i n most room more bytes xs ys r list is some same p a =
    subst (λ (l : List ℕ). AnswersTexts old first i most room bytes l new third r) (sym list) (subst (λ (m : ℕ). AnswersTexts old first i m room bytes ys new third r) is (cases r a))
  where
    cases : (r : Result Got OpenFault) → AnswersTexts mid second i n more bytes ys new third r → AnswersTexts old first i n room bytes ys new third r
    cases (Ok got) a = (gets_on old mid new first second third i 1 n got (λ k. octets (string_held 0 bytes ys k)) (omega (arith, some)) p.same p.stands p.met a.0, a.1)
    cases (Err lost) a = gets_not_on old mid new first second third i 1 n room more lost (omega (arith, some)) (omega (arith, same)) p.same p.stands p.met a
