-- Laws of items that are put behind those that wait, or let go.
use Rattle.std.proofs.Common.{Vec, Global, ◌≡◌, ℕ, ℤ, suc, get_or, ◌+◌, ◌-◌, ◌^◌, ◌<◌, ◌≤◌, List, [], ◌∷◌, ◌++◌, length, map, take, drop, refl, sym, ap, subst, ◌∙◌, arith, length-take}
use Rattle.std.specs.List.{AllByRecursion}
use Rattle.std.proofs.lemmas.List.{length-map, map-append, drop-map, append-nil}
use Rattle.e57_layout.specs.Values.{ItemKind, integers, words, strings, Value, whole, word}
use Rattle.e57_layout.specs.Items.{AreItems, IsItem}
use Rattle.e57_chunk_out.specs.Texts.{strings_at, AreEnds, AreGathered}
use Rattle.e57_chunk_out.specs.Waiting.{with_more, IsPending, IsPushed, IsLetGo, IsInOrder, kind_in, items_in, places_in, room_in}
use Rattle.e57_chunk_out.specs.declared.pending.Pending.{Pending}
use Rattle.e57_chunk_out.specs.declared.pending.Pending.TheVariants.{Ints, Bits32, Bits64, Texts}
use Rattle.e57_chunk_out.proofs.Waits.{all_drop}

all_append : {A : Type 0} (P : A → Type 0) (xs ys : List A) → AllByRecursion P xs → AllByRecursion P ys → AllByRecursion P (xs ++ ys)
all_append P [] ys h g = g
all_append P (x ∷ xs) ys h g = (h.0, all_append P xs ys h.1 g)

pub pushed-by : (p q : Pending) (until : ℕ) (more : List Value) → kind_in q ≡ kind_in p → places_in q ≡ places_in p → items_in q (until + length more) ≡ items_in p until ++ more
    → IsInOrder q (until + length more) → AreItems (kind_in p) more → until + length more ≤ 1031 → IsPending p until → IsPushed p until more q
pushed-by p q until more kind places items order are few h =
    let all : AreItems (kind_in p) (items_in p until ++ more) = all_append (IsItem (kind_in p)) (items_in p until) more h.items are in
    record {
      kind = kind;
      items = items;
      pending = record {
        places = places ∙ h.places;
        few = few;
        kind = rw kind h.kind;
        items = rw (kind, items) all;
        order = order;
      };
    }

pub let_go-by : (p q : Pending) (n until : ℕ) → kind_in q ≡ kind_in p → places_in q ≡ places_in p → items_in q (until - n) ≡ drop n (items_in p until) → IsInOrder q (until - n) → IsPending p until → IsLetGo p n until q
let_go-by p q n until kind places items order h =
    let all : AreItems (kind_in p) (drop n (items_in p until)) = all_drop (IsItem (kind_in p)) n (items_in p until) h.items in
    record {
      kind = kind;
      items = items;
      pending = record {
        places = places ∙ h.places;
        few = omega (arith, h.few);
        kind = rw kind h.kind;
        items = rw (kind, items) all;
        order = order;
      };
    }

pub put-mapped : {A : Type 0} (f : A → Value) (until : ℕ) (xs ys more : List A) → take (until + length more) ys ≡ take until xs ++ more → map f (take (until + length (map f more)) ys) ≡ map f (take until xs) ++ map f more
put-mapped f until xs ys more is = ap (λ k. map f (take (until + k) ys)) (length-map more f) ∙ ap (map f) is ∙ map-append f (take until xs) more

pub go-mapped : {A : Type 0} (f : A → Value) (n until : ℕ) (xs ys : List A) → take (until - n) ys ≡ drop n (take until xs) → map f (take (until - n) ys) ≡ drop n (map f (take until xs))
go-mapped f n until xs ys is = ap (map f) is ∙ sym (drop-map f n (take until xs))

-- nothing more
pub pushed-none : (p : Pending) (until : ℕ) → IsPending p until → IsPushed p until [] p
pushed-none p until h =
    let same : until + 0 ≡ until = omega arith in
    record {
      kind = refl;
      items = ap (items_in p) same ∙ sym (append-nil (items_in p until));
      pending = subst (IsPending p) (sym same) h;
    }

-- the kind tells how much room counts
room_of : ItemKind → ℕ → ℕ
room_of (integers low high) n = n
room_of (words w) n = n
room_of strings n = 0

room-is : (p : Pending) (n : ℕ) → room_in p n ≡ room_of (kind_in p) n
unfolding room_of
room-is (Ints min max w items) n = refl
room-is (Bits32 items) n = refl
room-is (Bits64 items) n = refl
room-is (Texts bytes ends) n = refl

pub room-by_kind : (p q : Pending) (n : ℕ) → kind_in q ≡ kind_in p → room_in q n ≡ room_in p n
room-by_kind p q n e = room-is q n ∙ ap (λ (kind : ItemKind). room_of kind n) e ∙ sym (room-is p n)

-- what a field with these items has
pub view-pushed : (p q : Pending) (until n room : ℕ) (more : List Value) (stream : List ℕ) → length more ≡ n → IsPushed p until more q
    → record { kind = kind_in q; items = items_in q (until + n); stream = stream; room = room_in q room } ≡ with_more more (record { kind = kind_in p; items = items_in p until; stream = stream; room = room_in p room })
view-pushed p q until n room more stream count h =
    ap (λ (k : ItemKind). record { kind = k; items = items_in q (until + n); stream = stream; room = room_in q room }) h.kind
    ∙ ap (λ (values : List Value). record { kind = kind_in p; items = values; stream = stream; room = room_in q room }) (ap (λ k. items_in q (until + k)) (sym count) ∙ h.items)
    ∙ ap (λ (k : ℕ). record { kind = kind_in p; items = items_in p until ++ more; stream = stream; room = k }) (room-by_kind p q room h.kind)

-- ---- strings

-- strings that end so are items
pub strings-items : (bytes : List ℕ) (begin : ℕ) (ends : List ℕ) → AreEnds (length bytes) begin ends → AreItems strings (strings_at bytes begin ends)
unfolding strings_at AreEnds
strings-items bytes begin [] h = tt
strings-items bytes begin (e ∷ es) h =
    let size = length-take (e - begin) (drop begin bytes) in
    (omega (arith, size, h.1), strings-items bytes e es h.2)

module _ (p q : Pending) (held ends now now_ends : List ℕ) (kind : kind_in p ≡ strings) (kind' : kind_in q ≡ strings) (places : places_in q ≡ places_in p)
    (items : (n : ℕ) → items_in p n ≡ strings_at held 0 (take n ends)) (items' : (n : ℕ) → items_in q n ≡ strings_at now 0 (take n now_ends)) (order : (n : ℕ) → AreEnds (length now) 0 (take n now_ends) → IsInOrder q n) where
  pub texts-pushed : (until : ℕ) (more : List Value) → AreItems strings more → until + length more ≤ 1031 → IsPending p until
      → AreGathered now (take (until + length more) now_ends) (strings_at held 0 (take until ends) ++ more) → IsPushed p until more q
  texts-pushed until more are few h gathered =
      pushed-by p q until more (kind' ∙ sym kind) places
      (items' (until + length more) ∙ gathered.strings ∙ ap (λ (values : List Value). values ++ more) (sym (items until)))
      (order (until + length more) gathered.order) (subst (λ (k : ItemKind). AreItems k more) (sym kind) are) few h

  pub texts-let_go : (n until : ℕ) → IsPending p until → AreGathered now (take (until - n) now_ends) (drop n (strings_at held 0 (take until ends))) → IsLetGo p n until q
  texts-let_go n until h gathered =
      let_go-by p q n until (kind' ∙ sym kind) places (items' (until - n) ∙ gathered.strings ∙ ap (drop n) (sym (items until))) (order (until - n) gathered.order) h

-- ---- numbers

pub words-items : (w : ℕ) (ns : List ℕ) → ((k : ℕ) → get_or ns k 0 < 2 ^ w) → AreItems (words w) (map word ns)
words-items w [] h = tt
words-items w (n ∷ ns) h = (h 0, words-items w ns (λ k. h (suc k)))

module _ {A : Type 0} (f : A → Value) (p q : Pending) (xs now : List A) (kind : kind_in q ≡ kind_in p) (places : places_in q ≡ places_in p)
    (items : (n : ℕ) → items_in p n ≡ map f (take n xs)) (items' : (n : ℕ) → items_in q n ≡ map f (take n now)) (order : (n : ℕ) → IsInOrder q n) where
  pub numbers-pushed : (until : ℕ) (more : List A) → AreItems (kind_in p) (map f more) → until + length more ≤ 1031 → IsPending p until → take (until + length more) now ≡ take until xs ++ more → IsPushed p until (map f more) q
  numbers-pushed until more are few h put =
      pushed-by p q until (map f more) kind places
      (items' (until + length (map f more)) ∙ put-mapped f until xs now more put ∙ ap (λ (values : List Value). values ++ map f more) (sym (items until)))
      (order (until + length (map f more))) are (omega (arith, few, length-map more f)) h

  pub numbers-let_go : (n until : ℕ) → IsPending p until → take (until - n) now ≡ drop n (take until xs) → IsLetGo p n until q
  numbers-let_go n until h gone =
      let_go-by p q n until kind places (items' (until - n) ∙ go-mapped f n until xs now gone ∙ ap (drop n) (sym (items until))) (order (until - n)) h

-- where integers are no items, there are none
pub none-pushed : (p : Pending) (until : ℕ) (zs : List ℤ) → ((min max : ℤ) (w : ℕ) (items : Vec ℤ Global) → p ≡ Ints min max w items → ⊥) → AreItems (kind_in p) (map whole zs) → IsPending p until
    → IsPushed p until (map whole zs) p
none-pushed p until [] other are h = pushed-none p until h
none-pushed (Ints min max w items) until (z ∷ zs) other are h = absurd (other min max w items refl)
none-pushed (Bits32 items) until (z ∷ zs) other are h = absurd are.0
none-pushed (Bits64 items) until (z ∷ zs) other are h = absurd are.0
none-pushed (Texts bytes ends) until (z ∷ zs) other are h = absurd are.0
