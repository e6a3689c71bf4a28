-- Laws of a section without an index: one step of its spans, and that all records of a span that is found have one chunk.
use Rattle.std.specs.Prelude.{◌≡◌, ℕ, zero, suc, ◌+◌, ◌-◌, ◌<◌, ◌≤◌, ◌==◌, ◌&&◌, ◌||◌, not, nat_lt, true, false, Bool, if◌then◌else◌, List, [], ◌∷◌, ◌++◌, length, Option, Some, None, is_some}
use Rattle.std.specs.Option.{option_or}
use Rattle.std.proofs.Common.{refl, sym, ap, subst, ◌∙◌, arith, ⊎_elim, length-append}
use Rattle.std.proofs.lemmas.Bool.{cases_Bool, cases_lt, ltb-true, and_parts}
use Rattle.std.proofs.lemmas.Option.{same_Some}
use Rattle.e57_base.specs.declared.fault.Fault.{Fault}
use Rattle.e57_page.specs.File.{logical}
use Rattle.e57_layout.specs.Packets.{length_at}
use Rattle.e57_layout.specs.declared.section.Section.{Section}
use Rattle.e57_layout.specs.declared.field.Fixed.{Fixed}
use Rattle.e57_cloud.specs.Walk.{Packet, Walk, walk, walk_from, IsFront}
use Rattle.e57_cloud.specs.Chunks.{data_packets, by_chunk, float_items}
use Rattle.e57_cloud.specs.PathItem.{Stretch, stretch_of, stretch}
use Rattle.e57_cloud.specs.Met.{place_after}
use Rattle.e57_cloud.proofs.Laws.Walks.{length_at-some}
use Rattle.e57_cloud.proofs.Laws.Fronts.{walk_from-end, front-walk, front-after}
use Rattle.e57_cloud.proofs.Laws.Covers.{walk-front, next-after}
use Rattle.e57_cloud.proofs.Laws.Pieces.{by_chunk-none, data-none}
use Rattle.e57_spans.specs.Spans.{Span, span, is_restart, start_at_fault, next_start, spans_on, walk_spans, walk_spans_from}

-- ---- the packet that ends a walk with a fault

front-le : (file : List ℕ) (s : Section) (at : ℕ) (packets : List Packet) (q : ℕ) → IsFront file s at packets q → (at ≤ q) × (0 < length packets → at < q)
unfolding IsFront
front-le file s at [] q front = (omega (arith, front), λ some. absurd (omega arith))
front-le file s at (packet ∷ packets) q front =
    let some : 0 < length_at (logical file) at = length_at-some (logical file) at in
    let rest = front-le file s (at + length_at (logical file) at) packets q front.3 in
    (omega (arith, rest.0), λ _. omega (arith, rest.0))

-- a walk that ends with this fault, behind some packets
pub record EndsAt (file : List ℕ) (s : Section) (q p : ℕ) (found : Fault) : Type 0 where
  pub there : p + 4 ≤ s.end
  pub after : q < p
  pub walked : walk_from file s p ≡ record { packets = []; fault = Some found }

empty-behind : (xs ys : List Packet) → xs ≡ xs ++ ys → ys ≡ []
empty-behind xs [] same = refl
empty-behind xs (y ∷ ys) same = let size : length xs ≡ length xs + suc (length ys) = ap length same ∙ length-append xs (y ∷ ys) in absurd (omega arith)

same-walk : (w : Walk) (packets : List Packet) (found : Option Fault) → w.packets ≡ packets → w.fault ≡ found → w ≡ record { packets = packets; fault = found }
same-walk w packets found a b = ap (λ (xs : List Packet). record { packets = xs; fault = w.fault }) a ∙ ap (λ (o : Option Fault). record { packets = packets; fault = o }) b

ends-at : (file : List ℕ) (s : Section) (q : ℕ) (found : Fault) → (walk_from file s q).fault ≡ Some found → 0 < length (walk_from file s q).packets → EndsAt file s q (place_after q (walk_from file s q).packets) found
unfolding walk_from
ends-at file s q found is some =
    let packets = (walk file s (s.end - q) q).packets in
    let front = walk-front file s (s.end - q) q (omega arith) in
    let to = front.0 in
    let place : place_after q packets ≡ to = front-after file s q packets to front.1 in
    let all = front-walk file s q packets to front.1 in
    let none = empty-behind packets (walk_from file s to).packets (ap (λ (w : Walk). w.packets) all) in
    let ended : (walk_from file s to).fault ≡ Some found = sym (ap (λ (w : Walk). w.fault) all) ∙ is in
    let le = front-le file s q packets to front.1 in
    subst (λ (p : ℕ). EndsAt file s q p found) (sym place)
    (record {
      there = ⊎_elim (λ (over : s.end < to + 4). absurd (never found (sym (ap (λ (w : Walk). w.fault) (walk_from-end file s to over)) ∙ ended))) (λ (within : to + 4 ≤ s.end). within) (cases_lt s.end (to + 4));
      after = le.1 some;
      walked = same-walk (walk_from file s to) [] (Some found) none ended;
    })
  where
    never : (f : Fault) → None ≡ Some f → ⊥
    never f e = cc

-- ---- where the next chunk starts

of-fault : (found : Option Fault) (pieces : List (List Packet)) (f : Fault) → (stretch_of found pieces).fault ≡ Some f → found ≡ Some f
of-fault found [] f is = is
of-fault found (chunk ∷ []) f is = is
of-fault found (chunk ∷ later ∷ more) f is = cc

stretch-ended : (file : List ℕ) (s : Section) (q : ℕ) (f : Fault) → (stretch file s q).fault ≡ Some f → (walk_from file s q).fault ≡ Some f
unfolding stretch
stretch-ended file s q f is = of-fault (walk_from file s q).fault (by_chunk (data_packets (walk_from file s q).packets)) f is

pub stretch-empty : (file : List ℕ) (s : Section) (q : ℕ) (found : Option Fault) → walk_from file s q ≡ record { packets = []; fault = found } → stretch file s q ≡ record { packets = []; fault = found; next = None }
unfolding stretch
stretch-empty file s q found is = rw (is, data-none, by_chunk-none)

stretch-some : (file : List ℕ) (s : Section) (q : ℕ) → 0 < length (stretch file s q).packets → 0 < length (walk_from file s q).packets
stretch-some file s q some = by_packets (walk_from file s q).packets refl
  where
    by_packets : (packets : List Packet) → (walk_from file s q).packets ≡ packets → 0 < length packets
    by_packets [] is =
        let empty = stretch-empty file s q (walk_from file s q).fault (same-walk (walk_from file s q) [] (walk_from file s q).fault is refl) in
        let size : length (stretch file s q).packets ≡ 0 = ap (λ (w : Stretch). length w.packets) empty in
        absurd (omega arith)
    by_packets (p ∷ ps) is = omega arith

-- the next chunk starts with a packet that has no fault, or with the packet whose fault ended the walk
pub data IsNext (file : List ℕ) (s : Section) (q p : ℕ) : Type 0 where
  by_restart : (stretch file s q).next ≡ Some p → IsNext file s q p
  by_fault : (found : Fault) → (stretch file s q).fault ≡ Some found → EndsAt file s q p found → IsNext file s q p

fault-cases : (found : Option Fault) (test : Bool) (p0 p : ℕ) → ◌≡◌ {A = Option ℕ} (if is_some found && test then Some p0 else None) (Some p) → (test ≡ true) × (p0 ≡ p) × ((f : Fault) × (found ≡ Some f))
fault-cases None test p0 p is = cc
fault-cases (Some f) true p0 p is = (refl, same_Some p0 p is, (f, refl))
fault-cases (Some f) false p0 p is = cc

pub next-cases : (file : List ℕ) (s : Section) (q p : ℕ) → next_start file s q ≡ Some p → IsNext file s q p
unfolding next_start
next-cases file s q p is = by_next (stretch file s q).next refl is
  where
    p0 : ℕ
    p0 = place_after q (walk_from file s q).packets

    at_fault : start_at_fault file (stretch file s q) p0 ≡ Some p → IsNext file s q p
    at_fault here =
        let parts = fault-cases (stretch file s q).fault (nat_lt 0 (length (stretch file s q).packets) && is_restart file p0) p0 p here in
        let some = ltb-true 0 (length (stretch file s q).packets) (and_parts (nat_lt 0 (length (stretch file s q).packets)) (is_restart file p0) parts.0).0 in
        let found = parts.2.0 in
        let ended = ends-at file s q found (stretch-ended file s q found parts.2.1) (stretch-some file s q some) in
        by_fault found parts.2.1 (subst (λ (n : ℕ). EndsAt file s q n found) parts.1 ended)

    by_next : (o : Option ℕ) → (stretch file s q).next ≡ o → option_or o (start_at_fault file (stretch file s q) p0) ≡ Some p → IsNext file s q p
    by_next None none here = at_fault here
    by_next (Some n) some here = by_restart (some ∙ here)

-- it starts further on
pub start-after : (file : List ℕ) (s : Section) (q p : ℕ) → next_start file s q ≡ Some p → q < p
start-after file s q p is = by_case (next-cases file s q p is)
  where
    by_case : IsNext file s q p → q < p
    by_case (by_restart next) = next-after file s q p next
    by_case (by_fault found ended at) = at.after

-- ---- one step

on-same : (s : Section) (first items : ℕ) (w : Stretch) (next : Option ℕ) (later other : ℕ → List Span) → ((p : ℕ) → next ≡ Some p → later p ≡ other p) → spans_on s first items w next later ≡ spans_on s first items w next other
on-same s first items w None later other same = refl
on-same s first items w (Some p) later other same =
    ⊎_elim
    (λ (refused : (items == 0 || not (nat_lt (first + items) s.count)) ≡ true). rw refused refl)
    (λ (goes : (items == 0 || not (nat_lt (first + items) s.count)) ≡ false). rw goes (ap (λ (xs : List Span). span first (first + items) None ∷ xs) (same p refl)))
    (cases_Bool (items == 0 || not (nat_lt (first + items) s.count)))

pub start-none : (file : List ℕ) (s : Section) (q : ℕ) → s.end < q + 4 → next_start file s q ≡ None
unfolding next_start
start-none file s q over = rw (stretch-empty file s q None (walk_from-end file s q over)) refl

pub past-end : (file : List ℕ) (s : Section) (fixed : Option Fixed) (fuel first q : ℕ) → s.end ≤ q → walk_spans file s fixed fuel first q ≡ span first s.count None ∷ []
unfolding walk_spans
past-end file s fixed zero first q over = refl
past-end file s fixed (suc fuel) first q over = rw (start-none file s q (omega arith), stretch-empty file s q None (walk_from-end file s q (omega arith))) refl

-- fuel that is enough changes nothing
pub spans-fuel : (file : List ℕ) (s : Section) (fixed : Option Fixed) (f g first q : ℕ) → s.end - q ≤ f → s.end - q ≤ g → walk_spans file s fixed f first q ≡ walk_spans file s fixed g first q
unfolding walk_spans
spans-fuel file s fixed zero g first q enough other = past-end file s fixed 0 first q (omega arith) ∙ sym (past-end file s fixed g first q (omega arith))
spans-fuel file s fixed (suc f) zero first q enough other = past-end file s fixed (suc f) first q (omega arith) ∙ sym (past-end file s fixed 0 first q (omega arith))
spans-fuel file s fixed (suc f) (suc g) first q enough other =
    let items = float_items fixed (stretch file s q).packets in
    on-same s first items (stretch file s q) (next_start file s q) (λ next. walk_spans file s fixed f (first + items) next) (λ next. walk_spans file s fixed g (first + items) next)
    (λ p next. let after = start-after file s q p next in spans-fuel file s fixed f g (first + items) p (omega arith) (omega arith))

-- The spans from a chunk on are its own, and those from the start of the next one.
pub spans-step : (file : List ℕ) (s : Section) (fixed : Option Fixed) (first q : ℕ)
    → walk_spans_from file s fixed first q ≡ spans_on s first (float_items fixed (stretch file s q).packets) (stretch file s q) (next_start file s q) (λ next. walk_spans_from file s fixed (first + float_items fixed (stretch file s q).packets) next)
unfolding walk_spans
spans-step file s fixed first q =
    let items = float_items fixed (stretch file s q).packets in
    spans-fuel file s fixed (s.end - q) (suc (s.end - q)) first q (omega arith) (omega arith)
    ∙ on-same s first items (stretch file s q) (next_start file s q) (λ next. walk_spans file s fixed (s.end - q) (first + items) next) (λ next. walk_spans_from file s fixed (first + items) next)
    (λ p next. let after = start-after file s q p next in spans-fuel file s fixed (s.end - q) (s.end - p) (first + items) p (omega arith) (omega arith))
