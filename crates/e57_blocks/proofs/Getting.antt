-- Items that were read: from the calls of a column, and one call after another.
use Rattle.std.specs.Prelude.{◌≡◌, ℕ, ◌+◌, ◌-◌, ◌<◌, ◌≤◌, List, ◌++◌, length, take, drop, get_or, Result, Option, Some, None, IfSome, IsSome, MatchResult, Ok, Err}
use Rattle.std.proofs.Common.{refl, sym, subst, ap, ◌∙◌, arith, inl, inr, length-append}
use Rattle.std.proofs.lemmas.List.{length-take, length-drop, get_or_append_left}
use Rattle.std.proofs.lemmas.Option.{same_Some}
use Rattle.e57_base.proofs.CountLaws.{rose_before}
use Rattle.e57_base.specs.Source.{SourceView}
use Rattle.e57_base.proofs.Told.{told_map, told_both, told_here, told_all}
use Rattle.e57_base.specs.declared.fault.Fault.{Fault}
use Rattle.e57_base.specs.declared.fault.OpenFault.{OpenFault}
use Rattle.e57_base.specs.declared.fault.OpenFault.TheVariants as lost
use Rattle.e57_base.specs.declared.fault.ReadFault.{ReadFault}
use Rattle.e57_base.specs.declared.fault.ReadFault.TheVariants.{Refused, Source}
use Rattle.e57_layout.specs.Values.{ItemKind, integers, words, strings, Value, whole, word, octets}
use Rattle.e57_stream.proofs.AskingLaws.{asks_met_none, asks_met_map, asks_met_on}
use Rattle.e57_column.specs.declared.state.State.{State}
use Rattle.e57_column.specs.Column.{kind_of, placed, wanted, column_item, column_length, StandsIn}
use Rattle.e57_column.specs.Reading.{SameField, KeepsStanding, OnRecords, AsksRecords, Seeks, SeeksNot, ReadsInto, StopsInto, AreWhole, IsLimited}
use Rattle.e57_column.specs.Texts.{TooLong}
use Rattle.e57_blocks.specs.declared.buffer.Got.{Got}
use Rattle.e57_blocks.specs.declared.buffer.Buffer.{Buffer}
use Rattle.e57_blocks.specs.declared.buffer.Buffer.TheVariants.{Ints, Bits32, Bits64, Texts}
use Rattle.e57_blocks.specs.Block.{IsKept, AreInside, item_in}
use Rattle.e57_blocks.specs.Filling.{PlacedAt, got_of, IsEnd, IsGrown, IsLost, IsStill, Gets, GetsNot}
use Rattle.e57_column.proofs.Joining.{field-on, same-item, same-records, stands-on, placed-is}

pub wanted_all : (c : State) (i n : ℕ) → placed c ≡ Some i → i + n ≤ c.stream.section.count → wanted c n ≡ n
wanted_all c i n is left = let at = (placed-is c i is).1 in omega (arith, at, left)

pub still_none : (i : ℕ) (at : Option ℕ) → at ≡ None → IsStill i at
still_none i None is = tt
still_none i (Some at) is = absurd cc

pub still_some : (i : ℕ) (at : Option ℕ) → at ≡ Some i → IsStill i at
still_some i None is = tt
still_some i (Some at) is = same_Some at i is

-- ---- limits

-- the items are numbers
abbrev pub IsNumbers : ItemKind → Type 0
IsNumbers (integers low high) = Unit {0}
IsNumbers (words w) = Unit {0}
IsNumbers strings = ⊥

pub whole_numbers : (kind : ItemKind) → AreWhole kind → IsNumbers kind
whole_numbers (integers low high) is = tt
whole_numbers (words w) is = tt
whole_numbers strings is = is

pub words_numbers : (kind : ItemKind) (w : ℕ) → kind ≡ words w → IsNumbers kind
words_numbers kind w is = subst IsNumbers (sym is) tt

limited_kept : (kind : ItemKind) (value : Value) → IsNumbers kind → IsLimited kind value → IsKept kind value
limited_kept (integers low high) (whole z) numbers is = is
limited_kept (integers low high) (word n) numbers is = is
limited_kept (integers low high) (octets t) numbers is = is
limited_kept (words w) value numbers is = is
limited_kept strings value numbers is = absurd numbers

same_length : (file : List ℕ) (a b : State) (i : ℕ) → SameField a b → column_length file b i ≡ column_length file a i
same_length file a b i same = rw (same.stream, same.items) refl

pub asks_wider : (old new : SourceView) (c : State) (i n m : ℕ) → n ≤ m → AsksRecords old c i n new → AsksRecords old c i m new
asks_wider old new c i n m few f =
    asks_met_map (λ file p. StandsIn file c → OnRecords file c i n p) (λ file p. StandsIn file c → OnRecords file c i m p) old new
    (told_all (λ file. (p : ℕ) → (StandsIn file c → OnRecords file c i n p) → StandsIn file c → OnRecords file c i m p) old.held
    (λ file p on is. let one = on is in let high = one.before in record { i = one.i; after = one.after; before = omega (arith, high, few); way = one.way })) f

pub asks_on : (old mid new : SourceView) (first second : State) (i n m : ℕ) → n ≤ m → SameField first second → KeepsStanding old first second → AsksRecords old first i n mid → AsksRecords mid second i m new → AsksRecords old first i m new
asks_on old mid new first second i n m few same stands f g =
    asks_met_on (λ file p. StandsIn file first → OnRecords file first i m p) old mid new
    (asks_wider old mid first i n m few f)
    (asks_met_map (λ file p. StandsIn file second → OnRecords file second i m p) (λ file p. StandsIn file first → OnRecords file first i m p) mid new
    (told_map (λ file. StandsIn file first → StandsIn file second) (λ file. (p : ℕ) → (StandsIn file second → OnRecords file second i m p) → StandsIn file first → OnRecords file first i m p) mid.held
    (λ file on p met is. same-records file first second i m p same (met (on is)))
    (told_here (λ file. StandsIn file first → StandsIn file second) old.held mid.held f.asks.same.held stands)) g)

-- what holds in a file in which the second column stands, holds where the first one stood
pub told_back : (P Q : List ℕ → Type 0) (old mid : SourceView) (first second : State) → mid.held ≡ old.held → KeepsStanding old first second → ((file : List ℕ) → P file → Q file)
    → IfSome mid.held (λ file. StandsIn file second → P file) → IfSome old.held (λ file. StandsIn file first → Q file)
told_back P Q old mid first second held stands each f =
    told_both (λ file. StandsIn file first → StandsIn file second) (λ file. StandsIn file second → P file) (λ file. StandsIn file first → Q file) old.held (λ file x y is. each file (y (x is))) stands
    (told_here (λ file. StandsIn file second → P file) mid.held old.held (sym held) f)

end_on : (old mid : SourceView) (first second third : State) (i : ℕ) (fault : Option Fault) → mid.held ≡ old.held → SameField first second → KeepsStanding old first second → IsEnd mid second i fault third → IsEnd old first i fault third
end_on old mid first second third i None held same stands e = e
end_on old mid first second third i (Some found) held same stands e =
    (e.0, e.1, told_back (λ file. column_item file second i ≡ Err found) (λ file. column_item file first i ≡ Err found) old mid first second held stands (λ file is. sym (same-item file first second i same) ∙ is) e.2)

pub gets_on : (old mid new : SourceView) (first second third : State) (i n want : ℕ) (got : Got) (item : ℕ → Value) → n ≤ want → SameField first second → KeepsStanding old first second → AsksRecords old first i n mid → Gets mid second i want got item new third → Gets old first i want got item new third
gets_on old mid new first second third i n want got item few same stands asks g =
    let held = asks.asks.same.held in
    record {
      some = g.some;
      few = g.few;
      all = rw same.items at g.all;
      same = field-on first second third same g.same;
      met = asks_on old mid new first second i n want few same stands asks g.met;
      kept = rw same.items at g.kept;
      items = told_back (λ file. (k : ℕ) → k < got.count → column_item file second (i + k) ≡ Ok (item k)) (λ file. (k : ℕ) → k < got.count → column_item file first (i + k) ≡ Ok (item k)) old mid first second held stands
          (λ file each k below. sym (same-item file first second (i + k) same) ∙ each k below) g.items;
      stands = stands-on old mid first second third held stands g.stands;
      behind = end_on old mid first second third (i + got.count) got.fault held same stands g.behind;
    }

pub long_on : (old mid : SourceView) (first second : State) (i room more n : ℕ) → mid.held ≡ old.held → SameField first second → KeepsStanding old first second → room ≤ more → TooLong mid second i more n → TooLong old first i room n
long_on old mid first second i room more n held same stands wider t = let high = t.more in record {
  more = omega (arith, high, wider);
  limit = t.limit;
  is = told_back (λ file. column_length file second i ≡ Ok (word n)) (λ file. column_length file first i ≡ Ok (word n)) old mid first second held stands (λ file is. sym (same_length file first second i same) ∙ is) t.is;
}

pub grown_same : (old : SourceView) (c : State) (i room a b : ℕ) → a ≡ b → IsGrown old c i room b → IsGrown old c i room a
grown_same old c i room a b same grown = subst (λ (n : ℕ). IsGrown old c i room n) (sym same) grown

pub grown_wider : (old : SourceView) (c : State) (i room more : ℕ) → IsGrown old c i room more → room ≤ more
grown_wider old c i room more (inl same) = omega (arith, same)
grown_wider old c i room more (inr long) = let high = long.more in omega (arith, high)

-- the room grew only after the column was placed
pub grown_on : (old mid : SourceView) (first second : State) (i room more : ℕ) → mid.held ≡ old.held → SameField first second → KeepsStanding old first second → IsGrown mid second i room more → IsGrown old first i room more
grown_on old mid first second i room more held same stands (inl is) = inl is
grown_on old mid first second i room more held same stands (inr long) = inr (long_on old mid first second i room room more held same stands (omega arith) long)

lost_on : (old mid new : SourceView) (first second third : State) (i room more : ℕ) (lost : OpenFault) → mid.held ≡ old.held → old.faults ≤ mid.faults → SameField first second → KeepsStanding old first second → room ≤ more → IsLost mid second i more lost new → IsLost old first i room lost new
lost_on old mid new first second third i room more (lost.Refused found) held rose same stands wider cause = cause
lost_on old mid new first second third i room more lost.Source held rose same stands wider cause = rose_before old.faults mid.faults new.faults rose cause
lost_on old mid new first second third i room more lost.Memory held rose same stands wider cause = record {
  texts = rw same.items at cause.texts;
  n = cause.n;
  long = long_on old mid first second i room more cause.n held same stands wider cause.long;
}

pub gets_not_on : (old mid new : SourceView) (first second third : State) (i n want room more : ℕ) (lost : OpenFault) → n ≤ want → room ≤ more → SameField first second → KeepsStanding old first second → AsksRecords old first i n mid → GetsNot mid second i want more lost new third → GetsNot old first i want room lost new third
gets_not_on old mid new first second third i n want room more lost few wider same stands asks g =
    let held = asks.asks.same.held in
    record {
      same = field-on first second third same g.same;
      met = asks_on old mid new first second i n want few same stands asks g.met;
      stands = stands-on old mid first second third held stands g.stands;
      still = g.still;
      cause = lost_on old mid new first second third i room more lost held asks.asks.faults same stands wider g.cause;
    }

-- ---- the calls of a column

-- it was there already
pub placed_there : (source : SourceView) (c : State) (i : ℕ) → IsSome (placed c) → IsStill i (placed c) → PlacedAt source c i 1 source c
placed_there source c i is still = record {
  is_at = there (placed c) is still;
  same = record { stream = refl; items = refl };
  met = asks_met_none (λ file p. StandsIn file c → OnRecords file c i 1 p) source;
  stands = told_all (λ file. StandsIn file c → StandsIn file c) source.held (λ file is. is);
}
  where
    there : (at : Option ℕ) → IsSome at → IsStill i at → at ≡ Some i
    there None is still = cc
    there (Some at) is still = ap Some still

pub placed_now : (old new : SourceView) (before after : State) (i : ℕ) → Seeks old before i new after → PlacedAt old before i 1 new after
placed_now old new before after i s = record { is_at = s.is_at; same = s.same; met = s.met; stands = s.stands }

-- all the wanted items were read
pub reads_gets : {X : Type 0} (default : X) (value : X → Value) (old new : SourceView) (before after : State) (i n want : ℕ) (out out' : List X) → IsNumbers (kind_of before.items) → placed before ≡ Some i → 0 < want → i + want ≤ before.stream.section.count → n ≡ wanted before want
    → ReadsInto default value old before n out out' new after → Gets old before i want (record { count = n; fault = None }) (λ k. value (get_or out' k default)) new after
reads_gets {X} default value old new before after i n want out out' numbers is_at some left is_all r =
    let at = (placed-is before i is_at).1 in
    let reads = r.reads in
    let all = is_all ∙ wanted_all before i want is_at left in
    record {
      some = inl (omega (arith, some, all));
      few = omega (arith, all);
      all = λ e. inl all;
      same = reads.same;
      met = subst (λ (a : ℕ). AsksRecords old before a want new) at (subst (λ (m : ℕ). AsksRecords old before before.chunk.at m new) all reads.met);
      kept = λ k below. limited_kept (kind_of before.items) (value (get_or out' k default)) numbers (r.within k below);
      items = subst (λ (a : ℕ). IfSome old.held (λ file. StandsIn file before → (j : ℕ) → j < n → column_item file before (a + j) ≡ Ok (value (get_or out' j default)))) at reads.items;
      stands = reads.stands;
      behind = reads.is_at ∙ ap (λ (a : ℕ). Some (a + n)) at;
    }

-- some of them were, up to a fault; or the source failed
pub stops_gets : {X : Type 0} (default : X) (value : X → Value) (old new : SourceView) (before after : State) (i want done room : ℕ) (out out' : List X) (found : ReadFault) → IsNumbers (kind_of before.items) → placed before ≡ Some i → i + want ≤ before.stream.section.count
    → StopsInto default value old before (wanted before want) done found out out' new after
    → MatchResult (got_of done found) (λ got. Gets old before i want got (λ k. value (get_or out' k default)) new after) (λ lost. GetsNot old before i want room lost new after)
stops_gets {X} default value old new before after i want done room out out' (Refused found) numbers is_at left s =
    let at = (placed-is before i is_at).1 in
    let stops = s.stops in
    let below = stops.below in
    let all = wanted_all before i want is_at left in
    let cause = stops.cause in
    record {
      some = inr refl;
      few = omega (arith, below, all);
      all = λ e. absurd cc;
      same = stops.same;
      met = subst (λ (a : ℕ). AsksRecords old before a want new) at (asks_wider old new before before.chunk.at (done + 1) want (omega (arith, below, all)) stops.met);
      kept = λ k below. limited_kept (kind_of before.items) (value (get_or out' k default)) numbers (s.within k below);
      items = subst (λ (a : ℕ). IfSome old.held (λ file. StandsIn file before → (j : ℕ) → j < done → column_item file before (a + j) ≡ Ok (value (get_or out' j default)))) at stops.items;
      stands = stops.stands;
      behind = (stops.is_at, cause.0, subst (λ (a : ℕ). IfSome old.held (λ file. StandsIn file before → column_item file before (a + done) ≡ Err found)) at cause.1);
    }
stops_gets {X} default value old new before after i want done room out out' Source numbers is_at left s =
    let at = (placed-is before i is_at).1 in
    let stops = s.stops in
    let below = stops.below in
    let all = wanted_all before i want is_at left in
    record {
      same = stops.same;
      met = subst (λ (a : ℕ). AsksRecords old before a want new) at (asks_wider old new before before.chunk.at (done + 1) want (omega (arith, below, all)) stops.met);
      stands = stops.stands;
      still = still_none i (placed after) stops.is_at;
      cause = stops.cause;
    }

-- record i wasn't reached
pub seek_gets : (old new : SourceView) (before after : State) (i want room : ℕ) (item : ℕ → Value) (found : ReadFault) → 0 < want → SeeksNot old before i found new after
    → MatchResult (got_of 0 found) (λ got. Gets old before i want got item new after) (λ lost. GetsNot old before i want room lost new after)
seek_gets old new before after i want room item (Refused found) some s =
    let cause = s.cause in
    let place : i ≡ i + 0 = omega arith in
    record {
      some = inr refl;
      few = omega arith;
      all = λ e. absurd cc;
      same = s.same;
      met = asks_wider old new before i 1 want (omega (arith, some)) s.met;
      kept = λ k below. absurd (omega (arith, below));
      items = told_all (λ file. StandsIn file before → (k : ℕ) → k < 0 → column_item file before (i + k) ≡ Ok (item k)) old.held (λ file is k below. absurd (omega (arith, below)));
      stands = s.stands;
      behind = (s.is_at, cause.0, subst (λ (a : ℕ). IfSome old.held (λ file. StandsIn file before → column_item file before a ≡ Err found)) place cause.1);
    }
seek_gets old new before after i want room item Source some s = record {
  same = s.same;
  met = asks_wider old new before i 1 want (omega (arith, some)) s.met;
  stands = s.stands;
  still = still_none i (placed after) s.is_at;
  cause = s.cause;
}

-- ---- the front of a buffer

-- the same items, told in another way
pub gets_same : (old new : SourceView) (before after : State) (i want : ℕ) (got : Got) (item item' : ℕ → Value) → ((k : ℕ) → k < want → item' k ≡ item k) → Gets old before i want got item new after → Gets old before i want got item' new after
gets_same old new before after i want got item item' same g =
    let few = g.few in
    record {
      some = g.some;
      few = g.few;
      all = g.all;
      same = g.same;
      met = g.met;
      kept = λ k below. subst (λ (v : Value). IsKept (kind_of before.items) v) (sym (same k (omega (arith, below, few)))) (g.kept k below);
      items = told_map (λ file. StandsIn file before → (k : ℕ) → k < got.count → column_item file before (i + k) ≡ Ok (item k)) (λ file. StandsIn file before → (k : ℕ) → k < got.count → column_item file before (i + k) ≡ Ok (item' k)) old.held
          (λ file each is k below. each is k below ∙ ap Ok (sym (same k (omega (arith, below, few))))) g.items;
      stands = g.stands;
      behind = g.behind;
    }

abbrev Answers : SourceView → State → ℕ → ℕ → ℕ → (ℕ → Value) → SourceView → State → Result Got OpenFault → Type 0
Answers old before i want room item new after r = MatchResult r (λ got. Gets old before i want got item new after) (λ lost. GetsNot old before i want room lost new after)

answers_same : (old new : SourceView) (before after : State) (i want room : ℕ) (item item' : ℕ → Value) (r : Result Got OpenFault) → ((k : ℕ) → k < want → item' k ≡ item k) → Answers old before i want room item new after r → Answers old before i want room item' new after r
answers_same old new before after i want room item item' (Ok got) same g = gets_same old new before after i want got item item' same g
answers_same old new before after i want room item item' (Err lost) same g = g

pub size_front : {X : Type 0} (out : List X) (want : ℕ) → want ≤ length out → length (take want out) ≡ want
size_front out want room = length-take want out ∙ omega (arith, room)

same_front : {X : Type 0} (default : X) (value : X → Value) (out part : List X) (want : ℕ) → length part ≡ want → (k : ℕ) → k < want → value (get_or (part ++ drop want out) k default) ≡ value (get_or part k default)
same_front {X} default value out part want size k below = ap value (get_or_append_left part (drop want out) default k (omega (arith, below, size)))

pub stops_front : {X : Type 0} (default : X) (value : X → Value) (old new : SourceView) (before after : State) (i want done room : ℕ) (out part : List X) (found : ReadFault) → IsNumbers (kind_of before.items) → placed before ≡ Some i → i + want ≤ before.stream.section.count → want ≤ length out
    → StopsInto default value old before (wanted before (length (take want out))) done found (take want out) part new after
    → Answers old before i want room (λ k. value (get_or (part ++ drop want out) k default)) new after (got_of done found)
stops_front {X} default value old new before after i want done room out part found numbers is_at left fits s =
    let size = size_front out want fits in
    answers_same old new before after i want room (λ k. value (get_or part k default)) (λ k. value (get_or (part ++ drop want out) k default)) (got_of done found) (same_front default value out part want (s.rest.same_length ∙ size))
    (stops_gets default value old new before after i want done room (take want out) part found numbers is_at left
    (subst (λ (w : ℕ). StopsInto default value old before (wanted before w) done found (take want out) part new after) size s))

pub reads_front : {X : Type 0} (default : X) (value : X → Value) (old new : SourceView) (before after : State) (i n want : ℕ) (out part : List X) → IsNumbers (kind_of before.items) → placed before ≡ Some i → 0 < want → i + want ≤ before.stream.section.count → want ≤ length out → n ≡ wanted before (length (take want out))
    → ReadsInto default value old before n (take want out) part new after → Gets old before i want (record { count = n; fault = None }) (λ k. value (get_or (part ++ drop want out) k default)) new after
reads_front {X} default value old new before after i n want out part numbers is_at some left fits all r =
    let size = size_front out want fits in
    gets_same old new before after i want (record { count = n; fault = None }) (λ k. value (get_or part k default)) (λ k. value (get_or (part ++ drop want out) k default)) (same_front default value out part want (r.rest.same_length ∙ size))
    (reads_gets default value old new before after i n want (take want out) part numbers is_at some left (all ∙ ap (λ (w : ℕ). wanted before w) size) r)

pub length_front : {X : Type 0} (out part : List X) (n : ℕ) → length part ≡ length (take n out) → n ≤ length out → length (part ++ drop n out) ≡ length out
length_front out part n same room =
    let size = size_front out n room in
    let rest : length (drop n out) ≡ length out - n = length-drop n out in
    length-append part (drop n out) ∙ omega (arith, same, size, rest, room)

-- ---- a column that was placed first

abbrev pub Fronts : SourceView → State → ℕ → ℕ → ℕ → Buffer → SourceView → State → Result Got OpenFault → Type 0
Fronts old before i want room buffer new after r = MatchResult r (λ got. Gets old before i want got (item_in buffer) new after × AreInside got.count buffer) (λ lost. GetsNot old before i want room lost new after)

pub fronts_on : (old mid new : SourceView) (first second third : State) (i n most room more : ℕ) (buffer : Buffer) (r : Result Got OpenFault) → n ≡ most → 0 < n → more ≡ room → PlacedAt old first i 1 mid second → Fronts mid second i n more buffer new third r → Fronts old first i most room buffer new third r
fronts_on old mid new first second third i n most room more buffer (Ok got) is some same p a =
    (subst (λ (m : ℕ). Gets old first i m got (item_in buffer) new third) is (gets_on old mid new first second third i 1 n got (item_in buffer) (omega (arith, some)) p.same p.stands p.met a.0), a.1)
fronts_on old mid new first second third i n most room more buffer (Err lost) is some same p a =
    subst (λ (m : ℕ). GetsNot old first i m room lost new third) is (gets_not_on old mid new first second third i 1 n room more lost (omega (arith, some)) (omega (arith, same)) p.same p.stands p.met a)

pub numbers_on : (old mid new : SourceView) (first second third : State) (i n most room : ℕ) (item : ℕ → Value) (r : Result Got OpenFault) → n ≡ most → 0 < n → 0 ≡ room → PlacedAt old first i 1 mid second → Answers mid second i n 0 item new third r
    → MatchResult r (λ got. Gets old first i most got item new third × Unit {0}) (λ lost. GetsNot old first i most room lost new third)
numbers_on old mid new first second third i n most room item (Ok got) is some same p a =
    (subst (λ (m : ℕ). Gets old first i m got item new third) is (gets_on old mid new first second third i 1 n got item (omega (arith, some)) p.same p.stands p.met a), tt)
numbers_on old mid new first second third i n most room item (Err lost) is some same p a =
    subst (λ (m : ℕ). GetsNot old first i m room lost new third) is (gets_not_on old mid new first second third i 1 n room 0 lost (omega (arith, some)) (omega (arith, same)) p.same p.stands p.met a)

pub lists_on : {X : Type 0} (default : X) (value : X → Value) (old mid new : SourceView) (first second third : State) (i n most room : ℕ) (xs ys : List X) (r : Result Got OpenFault) → xs ≡ ys → n ≡ most → 0 < n → 0 ≡ room → PlacedAt old first i 1 mid second → Answers mid second i n 0 (λ k. value (get_or ys k default)) new third r
    → MatchResult r (λ got. Gets old first i most got (λ k. value (get_or xs k default)) new third × Unit {0}) (λ lost. GetsNot old first i most room lost new third)
lists_on {X} default value old mid new first second third i n most room xs ys r list is some same p a =
    numbers_on old mid new first second third i n most room (λ k. value (get_or xs k default)) r is some same p (subst (λ (l : List X). Answers mid second i n 0 (λ k. value (get_or l k default)) new third r) (sym list) a)

pub fronts_none : (old new : SourceView) (before after : State) (i want room : ℕ) (buffer : Buffer) (found : ReadFault) → 0 < want → AreInside 0 buffer → SeeksNot old before i found new after → Fronts old before i want room buffer new after (got_of 0 found)
fronts_none old new before after i want room buffer (Refused found) some inside s = (seek_gets old new before after i want room (item_in buffer) (Refused found) some s, inside)
fronts_none old new before after i want room buffer Source some inside s = seek_gets old new before after i want room (item_in buffer) Source some s

pub none_inside : (buffer : Buffer) → AreInside 0 buffer
none_inside (Ints items) = tt
none_inside (Bits32 items) = tt
none_inside (Bits64 items) = tt
none_inside (Texts texts) = λ k below. absurd (omega (arith, below))
