-- Laws of the groups that are under way in the fields' streams.
use Rattle.std.proofs.Common.{◌≡◌, ℕ, ◌+◌, ◌*◌, ◌/◌, ◌^◌, ◌<◌, ◌≤◌, Bool, true, List, [], ◌∷◌, ◌++◌, length, map, pos, refl, sym, ap, subst, ◌∙◌, arith, inl, inr, ⊎_elim}
use Rattle.std.specs.Prelude.{◌⊎◌}
use Rattle.std.specs.List.{AllByRecursion}
use Rattle.std.proofs.lemmas.Bool.{leb-true}
use Rattle.std.proofs.lemmas.List.{length-map, length-append}
use Rattle.e57_layout.specs.Packets.{total, data_size}
use Rattle.e57_layout.specs.Packing.{fits_packet}
use Rattle.e57_layout.specs.Strings.{string_bytes_of}
use Rattle.e57_layout.specs.Values.{ItemKind, integers, words, strings, Value, whole, word, octets, kind_width}
use Rattle.e57_layout.specs.Items.{AreItems, field_bytes, stored, octets_of}
use Rattle.e57_layout.proofs.Laws.Layouts.{total-cons, data_size_is}
use Rattle.e57_layout.proofs.Laws.Numbers.{length-packed}
use Rattle.e57_chunk_out.specs.Waiting.{Waiting, part, taken, cleared, IsWaiting}
use Rattle.e57_chunk_out.specs.Cutting.{streams_of}
use Rattle.e57_chunk_out.specs.SideBySide.{Has, HasRoomFor, HasText}
use Rattle.e57_chunk_out.specs.Grouping.{IsFresh}
use Rattle.e57_chunk_out.specs.Going.{HasRuns, IsGathered}
use Rattle.e57_chunk_out.specs.declared.run.Run.{Run}
use Rattle.e57_chunk_out.proofs.Side.{grown, length-grown}
use Rattle.e57_chunk_out.proofs.Strings.{length-string_bytes, text_size-most}
use Rattle.e57_chunk_out.proofs.Waits.{length-part, part_items}
use Rattle.e57_chunk_out.proofs.Kept.{integers-no, words-no}

-- ---- how many bytes items have

size-least : (w n : ℕ) → w ≤ 64 → (w * n + 7) / 8 ≤ 8 * n
size-least w n h =
    let most : w * n ≤ 64 * n = grind (arith, h) in
    omega arith

-- numbers of at most 64 bits
sized : (kind : ItemKind) (items : List Value) → kind_width kind ≤ 64 → (kind ≡ strings) ⊎ (length (field_bytes kind items) ≤ 8 * length items)
unfolding field_bytes
sized (integers low high) items narrow =
    let size = length-packed (kind_width (integers low high)) (map (stored low) items) ∙ ap (λ n. (kind_width (integers low high) * n + 7) / 8) (length-map items (stored low)) in
    let most = size-least (kind_width (integers low high)) (length items) narrow in
    inr (omega (arith, size))
sized (words w) items narrow =
    let size = length-packed w (map (stored (pos 0)) items) ∙ ap (λ n. (w * n + 7) / 8) (length-map items (stored (pos 0))) in
    let most = size-least w (length items) narrow in
    inr (omega (arith, size))
sized strings items narrow = inl refl

texts-most : (items : List Value) → AreItems strings items → length (field_bytes strings items) ≤ 16777224 * length items
unfolding field_bytes octets_of
texts-most [] h = omega arith
texts-most (octets t ∷ items) h =
    let size = length-string_bytes t in
    let most = text_size-most (length t) in
    let rest = texts-most items h.1 in
    let both = length-append (string_bytes_of t) (field_bytes strings items) in
    omega (arith, both, h.0)
texts-most (whole z ∷ items) h = absurd h.0
texts-most (word n ∷ items) h = absurd h.0

-- any items
items-most : (kind : ItemKind) (items : List Value) → (kind ≡ strings) ⊎ (kind_width kind ≤ 64) → AreItems kind items → length (field_bytes kind items) ≤ 16777224 * length items
items-most strings items h are = texts-most items are
items-most (integers low high) items (inl e) are = absurd (integers-no low high e)
items-most (integers low high) items (inr narrow) are = ⊎_elim (λ e. absurd (integers-no low high e)) (λ few. omega arith) (sized (integers low high) items narrow)
items-most (words w) items (inl e) are = absurd (words-no w e)
items-most (words w) items (inr narrow) are = ⊎_elim (λ e. absurd (words-no w e)) (λ few. omega arith) (sized (words w) items narrow)

-- ---- room

room-one : (from n records most all : ℕ) (w : Waiting) → HasRuns records most w → from + n ≤ length w.items → length (w.stream ++ field_bytes w.kind (part from n w.items)) ≤ 65528 → records + n ≤ most → HasRoomFor from n w
room-one from n records most all w (inl e) there fit h = inl e
room-one from n records most all w (inr numbers) there fit h = ⊎_elim
    (λ e. inl e)
    (λ few.
    let count = length-part from n w.items there in
    let both = length-append w.stream (field_bytes w.kind (part from n w.items)) in
    inr (omega (arith, numbers.few, numbers.room, count, both)))
    (sized w.kind (part from n w.items) numbers.width)

rooms-fit : (from n records most : ℕ) (fields : List Waiting) → AllByRecursion (HasRuns records most) fields → AllByRecursion (Has (from + n)) fields → total (grown from n fields) ≤ 65528 → records + n ≤ most → AllByRecursion (HasRoomFor from n) fields
rooms-fit from n records most [] runs there fit h = tt
rooms-fit from n records most (w ∷ fields) runs there fit h =
    let parts = total-cons (w.stream ++ field_bytes w.kind (part from n w.items)) (grown from n fields) in
    (room-one from n records most 0 w runs.0 there.0 (omega (arith, parts)) h, rooms-fit from n records most fields runs.1 there.1 (omega (arith, parts)) h)

fit-total : (ss : List (List ℕ)) → 0 < length ss → fits_packet ss ≡ true → total ss ≤ 65528
unfolding fits_packet
fit-total ss some fit =
    let size = data_size_is ss in
    let most : data_size ss ≤ 65536 = leb-true (data_size ss) 65536 fit in
    omega arith

-- groups that fit behind the run
pub room_taken : (from n : ℕ) (fields : List Waiting) (run : Run) → IsGathered fields run → AllByRecursion (Has (from + n)) fields → run.records + n ≤ run.most → fits_packet (grown from n fields) ≡ true → AllByRecursion (HasRoomFor from n) fields
room_taken from n fields run gathered there h fit =
    let count = length-grown from n fields in
    rooms-fit from n run.records run.most fields gathered.rooms there (fit-total (grown from n fields) (omega (arith, gathered.some)) fit) h

fresh-one : (from n most : ℕ) (w : Waiting) → HasRuns 0 most w → IsFresh w → from + n ≤ length w.items → n ≤ 8 → length (w.stream ++ field_bytes w.kind (part from n w.items)) ≤ 65528 ⊎ (w.kind ≡ strings)
fresh-one from n most w (inl e) fresh there few = inr e
fresh-one from n most w (inr numbers) fresh there few = ⊎_elim
    (λ e. inr e)
    (λ size.
    let count = length-part from n w.items there in
    let both = length-append w.stream (field_bytes w.kind (part from n w.items)) in
    inl (omega (arith, numbers.few, count, both)))
    (sized w.kind (part from n w.items) numbers.width)

-- a group, where nothing is under way
pub room_alone : (from n most : ℕ) (fields : List Waiting) → AllByRecursion (HasRuns 0 most) fields → AllByRecursion IsFresh fields → AllByRecursion (Has (from + n)) fields → n ≤ 8 → n ≤ most → AllByRecursion (HasRoomFor from n) fields
room_alone from n most [] runs fresh there few h = tt
room_alone from n most (w ∷ fields) runs fresh there few h = (
  ⊎_elim (λ fit. room-one from n 0 most 0 w runs.0 there.0 fit (omega (arith, h))) (λ e. inl e) (fresh-one from n most w runs.0 fresh.0 there.0 few),
  room_alone from n most fields runs.1 fresh.1 there.1 few h,
)

kind-known : (records most : ℕ) (w : Waiting) → HasRuns records most w → (w.kind ≡ strings) ⊎ (kind_width w.kind ≤ 64)
kind-known records most w (inl e) = inl e
kind-known records most w (inr numbers) = inr numbers.width

total-alone : (from n most : ℕ) (fields : List Waiting) → AllByRecursion IsWaiting fields → AllByRecursion (HasRuns 0 most) fields → AllByRecursion IsFresh fields → AllByRecursion (Has (from + n)) fields → n ≤ 8 → total (grown from n fields) ≤ 134217792 * length fields
total-alone from n most [] waiting runs fresh there few = omega arith
total-alone from n most (w ∷ fields) waiting runs fresh there few =
    let parts = total-cons (w.stream ++ field_bytes w.kind (part from n w.items)) (grown from n fields) in
    let count = length-part from n w.items there.0 in
    let none : length w.stream ≡ 0 = ap (λ (s : List ℕ). length s) fresh.0 in
    let both = length-append w.stream (field_bytes w.kind (part from n w.items)) in
    let one = items-most w.kind (part from n w.items) (kind-known 0 most w runs.0) (part_items w.kind from n w.items waiting.0.items) in
    let rest = total-alone from n most fields waiting.1 runs.1 fresh.1 there.1 few in
    omega (arith, parts, count, none, both)

-- ---- what is under way, after a step

waiting-taken : (from n : ℕ) (fields : List Waiting) → AllByRecursion IsWaiting fields → AllByRecursion IsWaiting (map (taken from n) fields)
waiting-taken from n [] h = tt
waiting-taken from n (w ∷ fields) h = (record { kind = h.0.kind; items = h.0.items; few = h.0.few }, waiting-taken from n fields h.1)

runs-one : (from n records most : ℕ) (w : Waiting) → HasRuns records most w → from + n ≤ length w.items → HasRuns (records + n) most (taken from n w)
runs-one from n records most w (inl e) there = inl e
runs-one from n records most w (inr numbers) there = ⊎_elim
    (λ e. inl e)
    (λ size.
    let count = length-part from n w.items there in
    let both = length-append w.stream (field_bytes w.kind (part from n w.items)) in
    inr (record { width = numbers.width; few = omega (arith, numbers.few, count, both); room = numbers.room }))
    (sized w.kind (part from n w.items) numbers.width)

runs-taken : (from n records most : ℕ) (fields : List Waiting) → AllByRecursion (HasRuns records most) fields → AllByRecursion (Has (from + n)) fields → AllByRecursion (HasRuns (records + n) most) (map (taken from n) fields)
runs-taken from n records most [] runs there = tt
runs-taken from n records most (w ∷ fields) runs there = (runs-one from n records most w runs.0 there.0, runs-taken from n records most fields runs.1 there.1)

pub gathered_taken : (from n : ℕ) (fields : List Waiting) (run : Run) → IsGathered fields run → 0 < n → AllByRecursion (Has (from + n)) fields → fits_packet (grown from n fields) ≡ true → IsGathered (map (taken from n) fields) (record run { records = run.records + n })
gathered_taken from n fields run gathered some there fit =
    let count = length-map fields (taken from n) in
    record {
      some = omega (arith, gathered.some, count);
      few = omega (arith, gathered.few, count);
      waiting = waiting-taken from n fields gathered.waiting;
      fresh = λ none. absurd (omega (arith, none, some));
      fits = λ h. fit;
      rooms = runs-taken from n run.records run.most fields gathered.rooms there;
    }

waiting-cleared : (fields : List Waiting) → AllByRecursion IsWaiting fields → AllByRecursion IsWaiting (map cleared fields)
waiting-cleared [] h = tt
waiting-cleared (w ∷ fields) h = (record { kind = h.0.kind; items = h.0.items; few = h.0.few }, waiting-cleared fields h.1)

pub fresh-cleared : (fields : List Waiting) → AllByRecursion IsFresh (map cleared fields)
fresh-cleared [] = tt
fresh-cleared (w ∷ fields) = (refl, fresh-cleared fields)

runs-none : (records most : ℕ) (w : Waiting) → HasRuns records most w → HasRuns 0 most (cleared w)
runs-none records most w (inl e) = inl e
runs-none records most w (inr numbers) = inr (record { width = numbers.width; few = omega arith; room = numbers.room })

runs-cleared : (records most : ℕ) (fields : List Waiting) → AllByRecursion (HasRuns records most) fields → AllByRecursion (HasRuns 0 most) (map cleared fields)
runs-cleared records most [] h = tt
runs-cleared records most (w ∷ fields) h = (runs-none records most w h.0, runs-cleared records most fields h.1)

pub gathered_cleared : (fields : List Waiting) (run : Run) (begun : Bool) → IsGathered fields run → IsGathered (map cleared fields) (record run { records = 0; is_begun = begun })
gathered_cleared fields run begun gathered =
    let count = length-map fields cleared in
    record {
      some = omega (arith, gathered.some, count);
      few = omega (arith, gathered.few, count);
      waiting = waiting-cleared fields gathered.waiting;
      fresh = λ none. fresh-cleared fields;
      fits = λ h. absurd (omega (arith, h));
      rooms = runs-cleared run.records run.most fields gathered.rooms;
    }

pub cleared-taken : (from n : ℕ) (fields : List Waiting) → map cleared (map (taken from n) fields) ≡ map cleared fields
cleared-taken from n [] = refl
cleared-taken from n (w ∷ fields) = ap (λ (ws : List Waiting). cleared w ∷ ws) (cleared-taken from n fields)

pub cleared-fresh : (fields : List Waiting) → AllByRecursion IsFresh fields → map cleared fields ≡ fields
cleared-fresh [] h = refl
cleared-fresh (w ∷ fields) h = rw (cleared-fresh fields h.1) (ap (λ (s : List ℕ). record w { stream = s } ∷ fields) (sym h.0))

pub has-cleared : (n : ℕ) (fields : List Waiting) → AllByRecursion (Has n) fields → AllByRecursion (Has n) (map cleared fields)
has-cleared n [] h = tt
has-cleared n (w ∷ fields) h = (h.0, has-cleared n fields h.1)

pub text-cleared : (fields : List Waiting) → HasText (map cleared fields) → HasText fields
text-cleared [] h = h
text-cleared (w ∷ fields) (inl e) = inl e
text-cleared (w ∷ fields) (inr h) = inr (text-cleared fields h)

-- a group isn't too large to be poured
pub pour_limit : (from n : ℕ) (fields : List Waiting) (run : Run) → IsGathered fields run → run.records ≡ 0 → AllByRecursion (Has (from + n)) fields → n ≤ 8 → total (streams_of (map (taken from n) fields)) ≤ 2 ^ 45
pour_limit from n fields run gathered none there few =
    let runs = subst (λ r. AllByRecursion (HasRuns r run.most) fields) none gathered.rooms in
    let most = total-alone from n run.most fields gathered.waiting runs (gathered.fresh none) there few in
    omega (arith, gathered.few)

pub runs-alone : (fields : List Waiting) (run : Run) → IsGathered fields run → run.records ≡ 0 → AllByRecursion (HasRuns 0 run.most) fields
runs-alone fields run gathered none = subst (λ r. AllByRecursion (HasRuns r run.most) fields) none gathered.rooms
