-- Laws of what a field keeps.
use Rattle.std.proofs.Common.{◌≡◌, ℕ, suc, ◌<◌, ◌≤◌, List, [], ◌∷◌, length, take, refl, ap, ◌∙◌, arith, inl, inr, ℤ, subst}
use Rattle.std.specs.Prelude.{◌⊎◌}
use Rattle.std.proofs.lemmas.List.{length-map, length-take-le}
use Rattle.e57_layout.specs.Values.{ItemKind, integers, words, strings, whole, word}
use Rattle.e57_chunk_out.specs.Texts.{strings_at}
use Rattle.e57_chunk_out.specs.Waiting.{IsPending, IsWaiting, kind_in, items_in, places_in, room_in}
use Rattle.e57_chunk_out.specs.declared.pending.Pending.{Pending}
use Rattle.e57_chunk_out.specs.declared.pending.Pending.TheVariants.{Ints, Bits32, Bits64, Texts}

pub length-strings : (bytes : List ℕ) (begin : ℕ) (ends : List ℕ) → length (strings_at bytes begin ends) ≡ length ends
unfolding strings_at
length-strings bytes begin [] = refl
length-strings bytes begin (e ∷ es) = ap suc (length-strings bytes e es)

pub length-items_in : (p : Pending) (n : ℕ) → n ≤ places_in p → length (items_in p n) ≡ n
length-items_in (Ints min max w items) n h = length-map (take n items.items) whole ∙ length-take-le n items.items h
length-items_in (Bits32 items) n h = length-map (take n items.items) word ∙ length-take-le n items.items h
length-items_in (Bits64 items) n h = length-map (take n items.items) word ∙ length-take-le n items.items h
length-items_in (Texts bytes ends) n h = length-strings bytes.items 0 (take n ends.items) ∙ length-take-le n ends.items h

pub pending-length : (p : Pending) (n : ℕ) → IsPending p n → length (items_in p n) ≡ n
pending-length p n h = length-items_in p n (omega (arith, h.places, h.few))

pub is-waiting : (p : Pending) (n : ℕ) (stream : List ℕ) (room : ℕ) → IsPending p n → IsWaiting (record { kind = kind_in p; items = items_in p n; stream = stream; room = room })
is-waiting p n stream room h = let size = pending-length p n h in record { kind = h.kind; items = h.items; few = omega (arith, size, h.few) }

-- only strings lack room
pub lacking-kind : (p : Pending) (need len : ℕ) → (kind_in p ≡ strings) ⊎ (need ≤ room_in p len) → len < need → kind_in p ≡ strings
lacking-kind (Ints min max w items) need len (inl e) g = e
lacking-kind (Ints min max w items) need len (inr h) g = absurd (omega arith)
lacking-kind (Bits32 items) need len (inl e) g = e
lacking-kind (Bits32 items) need len (inr h) g = absurd (omega arith)
lacking-kind (Bits64 items) need len (inl e) g = e
lacking-kind (Bits64 items) need len (inr h) g = absurd (omega arith)
lacking-kind (Texts bytes ends) need len h g = refl

is-number : ItemKind → Type 0
is-number (integers low high) = Unit {0}
is-number (words w) = Unit {0}
is-number strings = ⊥

pub integers-no : (low high : ℤ) → integers low high ≡ strings → ⊥
unfolding is-number
integers-no low high e = subst is-number e tt

pub words-no : (w : ℕ) → words w ≡ strings → ⊥
unfolding is-number
words-no w e = subst is-number e tt

-- their room doesn't count
pub same-room : (p : Pending) (need len more : ℕ) → (kind_in p ≡ strings) ⊎ (need ≤ room_in p len) → (need ≤ len → more ≡ len) → room_in p more ≡ room_in p len
same-room (Ints min max w items) need len more (inl e) g = absurd (integers-no min max e)
same-room (Ints min max w items) need len more (inr h) g = g h
same-room (Bits32 items) need len more (inl e) g = absurd (words-no 32 e)
same-room (Bits32 items) need len more (inr h) g = g h
same-room (Bits64 items) need len more (inl e) g = absurd (words-no 64 e)
same-room (Bits64 items) need len more (inr h) g = g h
same-room (Texts bytes ends) need len more h g = refl
