-- Pieces of a stream, packet by packet.
use Rattle.std.proofs.Common.{◌≡◌, ℕ, ◌≤◌, List, [], ◌++◌, take, drop, refl, sym, subst, ap, ◌∙◌, arith, append_assoc}
use Rattle.std.proofs.lemmas.List.{take-append-drop, append-nil}
use Rattle.e57_base.proofs.CountLaws.{rose_before}
use Rattle.e57_base.specs.Source.{SourceView}
use Rattle.e57_base.proofs.Told.{told_map, told_both, told_here, told_all}
use Rattle.e57_base.specs.declared.fault.Fault.{Fault}
use Rattle.e57_base.specs.declared.fault.ReadFault.{ReadFault}
use Rattle.e57_base.specs.declared.fault.ReadFault.TheVariants.{Refused, Source}
use Rattle.e57_cloud.proofs.Laws.Fronts.{front-walked}
use Rattle.e57_stream.specs.declared.bytestream.Bytestream.{Bytestream}
use Rattle.e57_stream.specs.declared.chunk.Chunk.{Chunk}
use Rattle.e57_stream.specs.Asking.{AsksMet}
use Rattle.e57_stream.proofs.AskingLaws.{asks_met_none, asks_met_on, asks_met_map, asks_near_none, asks_near_on}
use Rattle.e57_stream.specs.Standing.{HasTaken, Reaches}
use Rattle.e57_stream.specs.Taking.{SamePlace, InNext, TakesPacket, Finishes, IsFinishCause, TakesNone}
use Rattle.e57_texts.specs.Pieces.{IsAsked, TakesPiece, EndsWanting, IsPieceCause, LacksPiece}

pub same_here : (chunk : Chunk) → SamePlace chunk chunk
same_here chunk = record { start = refl; until = refl; entry = refl; at = refl; bit = refl }

pub same_on : (a b c : Chunk) → SamePlace a b → SamePlace b c → SamePlace a c
same_on a b c f g = record { start = g.start ∙ f.start; until = g.until ∙ f.until; entry = g.entry ∙ f.entry; at = g.at ∙ f.at; bit = g.bit ∙ f.bit }

-- ---- nothing, and bytes of the window

pub takes_none : (source : SourceView) (b : Bytestream) (chunk : Chunk) (wants : List ℕ → Type 0) → chunk.taken ≤ b.section.end → TakesPiece source b chunk wants [] chunk source
takes_none source b chunk wants within = record {
  same = same_here chunk;
  onward = omega arith;
  within = within;
  near = asks_near_none chunk.taken source;
  met = asks_met_none (IsAsked b chunk wants) source;
  reaches = told_all (λ file. (front : List ℕ) → Reaches file b chunk front → Reaches file b chunk (front ++ [])) source.held
      (λ file front reaches. subst (λ (xs : List ℕ). HasTaken file b chunk.entry chunk.taken chunk.fresh (xs ++ chunk.window)) (sym (append-nil front)) reaches);
}

moved_bytes : (front bytes window : List ℕ) (n : ℕ) → (front ++ bytes) ++ window ≡ (front ++ (bytes ++ take n window)) ++ drop n window
moved_bytes front bytes window n =
    append_assoc front bytes window
    ∙ ap (λ (xs : List ℕ). front ++ (bytes ++ xs)) (sym (take-append-drop n window))
    ∙ ap (λ (xs : List ℕ). front ++ xs) (sym (append_assoc bytes (take n window) (drop n window)))
    ∙ sym (append_assoc front (bytes ++ take n window) (drop n window))

-- the window moved on over n bytes
pub takes_moved : (s0 s1 : SourceView) (b : Bytestream) (c0 c1 : Chunk) (wants : List ℕ → Type 0) (bytes : List ℕ) (n : ℕ) (window : List ℕ) → window ≡ drop n c1.window → TakesPiece s0 b c0 wants bytes c1 s1
    → TakesPiece s0 b c0 wants (bytes ++ take n c1.window) (record c1 { window = window }) s1
takes_moved s0 s1 b c0 c1 wants bytes n window is f = record {
  same = record { start = f.same.start; until = f.same.until; entry = f.same.entry; at = f.same.at; bit = f.same.bit };
  onward = f.onward;
  within = f.within;
  near = f.near;
  met = f.met;
  reaches = told_map (λ file. (front : List ℕ) → Reaches file b c0 front → Reaches file b c1 (front ++ bytes))
      (λ file. (front : List ℕ) → Reaches file b c0 front → HasTaken file b c1.entry c1.taken c1.fresh ((front ++ (bytes ++ take n c1.window)) ++ window)) s0.held
      (λ file on front reaches. rw is (subst (λ (xs : List ℕ). HasTaken file b c1.entry c1.taken c1.fresh xs) (moved_bytes front bytes c1.window n) (on front reaches))) f.reaches;
}

-- ---- one packet more

asked_next : (file : List ℕ) (b : Bytestream) (c0 c1 : Chunk) (wants : List ℕ → Type 0) (bytes : List ℕ) (p : ℕ) → c1.entry ≡ c0.entry → wants (bytes ++ c1.window)
    → ((front : List ℕ) → Reaches file b c0 front → Reaches file b c1 (front ++ bytes)) → InNext b c1 file p → IsAsked b c0 wants file p
asked_next file b c0 c1 wants bytes p entry wanting on next front reaches =
    let has : HasTaken file b c0.entry c1.taken c1.fresh ((front ++ bytes) ++ c1.window) = subst (λ (e : ℕ). HasTaken file b e c1.taken c1.fresh ((front ++ bytes) ++ c1.window)) entry (on front reaches) in
    record {
      packets = has.packets;
      q = c1.taken;
      more = bytes ++ c1.window;
      walked = front-walked file b.section c0.entry has.packets c1.taken has.leads has.one_chunk;
      there = next.0;
      stream = has.stream ∙ append_assoc front bytes c1.window;
      wanting = wanting;
      within = next.1;
    }

met_next : (s0 s1 s2 : SourceView) (b : Bytestream) (c0 c1 : Chunk) (wants : List ℕ → Type 0) (bytes : List ℕ) → TakesPiece s0 b c0 wants bytes c1 s1 → wants (bytes ++ c1.window) → AsksMet (InNext b c1) s1 s2 → AsksMet (IsAsked b c0 wants) s0 s2
met_next s0 s1 s2 b c0 c1 wants bytes f wanting met =
    asks_met_on (IsAsked b c0 wants) s0 s1 s2 f.met
    (asks_met_map (InNext b c1) (IsAsked b c0 wants) s1 s2
    (told_map (λ file. (front : List ℕ) → Reaches file b c0 front → Reaches file b c1 (front ++ bytes)) (λ file. (p : ℕ) → InNext b c1 file p → IsAsked b c0 wants file p) s1.held
    (λ file on p next. asked_next file b c0 c1 wants bytes p f.same.entry wanting on next)
    (told_here (λ file. (front : List ℕ) → Reaches file b c0 front → Reaches file b c1 (front ++ bytes)) s0.held s1.held f.near.asks.same.held f.reaches))
    met)

pub takes_packet : (s0 s1 s2 : SourceView) (b : Bytestream) (c0 c1 c2 : Chunk) (wants : List ℕ → Type 0) (bytes : List ℕ) → wants (bytes ++ c1.window) → TakesPiece s0 b c0 wants bytes c1 s1 → TakesPacket s1 b c1 c2 s2
    → TakesPiece s0 b c0 wants bytes c2 s2
takes_packet s0 s1 s2 b c0 c1 c2 wants bytes wanting f g =
    let on = f.onward in
    let there = g.there in
    let held = f.near.asks.same.held in
    record {
      same = same_on c0 c1 c2 f.same g.same;
      onward = omega (arith, on, there);
      within = g.within;
      near = asks_near_on c0.taken c1.taken c2.taken s0 s1 s2 on (omega (arith, there)) f.near g.near;
      met = met_next s0 s1 s2 b c0 c1 wants bytes f wanting g.met;
      reaches = told_both (λ file. (front : List ℕ) → Reaches file b c0 front → Reaches file b c1 (front ++ bytes)) (λ file. (front : List ℕ) → Reaches file b c1 front → Reaches file b c2 front)
          (λ file. (front : List ℕ) → Reaches file b c0 front → Reaches file b c2 (front ++ bytes)) s0.held (λ file one two front reaches. two (front ++ bytes) (one front reaches)) f.reaches
          (told_here (λ file. (front : List ℕ) → Reaches file b c1 front → Reaches file b c2 front) s1.held s0.held (sym held) g.reaches);
    }

same_finish : (file : List ℕ) (b : Bytestream) (entry entry' i i' : ℕ) (xs ys : List ℕ) (found : Fault) → entry ≡ entry' → i ≡ i' → xs ≡ ys → Finishes file b entry i xs found → Finishes file b entry' i' ys found
same_finish file b entry entry' i i' xs ys found e g h finishes = rw (← e, ← g, ← h) finishes

ends_wanting : (file : List ℕ) (b : Bytestream) (c0 c1 : Chunk) (wants : List ℕ → Type 0) (bytes front : List ℕ) (found : Fault) → SamePlace c0 c1 → wants (bytes ++ c1.window) → Finishes file b c1.entry c1.at ((front ++ bytes) ++ c1.window) found → EndsWanting file b c0 front wants found
ends_wanting file b c0 c1 wants bytes front found same wanting finishes = record {
  more = bytes ++ c1.window;
  wanting = wanting;
  finishes = same_finish file b c1.entry c0.entry c1.at c0.at ((front ++ bytes) ++ c1.window) (front ++ (bytes ++ c1.window)) found same.entry same.at (append_assoc front bytes c1.window) finishes;
}

pub cause_next : (s0 s1 s2 : SourceView) (b : Bytestream) (c0 c1 : Chunk) (wants wants1 : List ℕ → Type 0) (bytes : List ℕ) (found : ReadFault) → wants (bytes ++ c1.window) → TakesPiece s0 b c0 wants1 bytes c1 s1 → IsFinishCause s1 b c1 found s2 → IsPieceCause s0 b c0 wants found s2
cause_next s0 s1 s2 b c0 c1 wants wants1 bytes (Refused found) wanting f cause = (
  cause.0,
  told_both (λ file. (front : List ℕ) → Reaches file b c0 front → Reaches file b c1 (front ++ bytes)) (λ file. (front : List ℕ) → Reaches file b c1 front → Finishes file b c1.entry c1.at (front ++ c1.window) found)
      (λ file. (front : List ℕ) → Reaches file b c0 front → EndsWanting file b c0 front wants found) s0.held
      (λ file one two front reaches. ends_wanting file b c0 c1 wants bytes front found f.same wanting (two (front ++ bytes) (one front reaches))) f.reaches
      (told_here (λ file. (front : List ℕ) → Reaches file b c1 front → Finishes file b c1.entry c1.at (front ++ c1.window) found) s1.held s0.held (sym f.near.asks.same.held) cause.1),
)
cause_next s0 s1 s2 b c0 c1 wants wants1 bytes Source wanting f cause = rose_before s0.faults s1.faults s2.faults f.near.asks.faults cause

-- no packet follows
pub lacks_packet : (s0 s1 s2 : SourceView) (b : Bytestream) (c0 c1 c2 : Chunk) (wants : List ℕ → Type 0) (bytes : List ℕ) (found : ReadFault) → wants (bytes ++ c1.window) → TakesPiece s0 b c0 wants bytes c1 s1 → TakesNone s1 b c1 found c2 s2
    → LacksPiece s0 b c0 wants found c2 s2
lacks_packet s0 s1 s2 b c0 c1 c2 wants bytes found wanting f g =
    subst (λ (chunk : Chunk). LacksPiece s0 b c0 wants found chunk s2) (sym g.same)
    (record {
      same = f.same;
      onward = f.onward;
      within = f.within;
      met = met_next s0 s1 s2 b c0 c1 wants bytes f wanting g.met;
      cause = cause_next s0 s1 s2 b c0 c1 wants wants bytes found wanting f g.cause;
    })

-- ---- one piece after another

asked_wider : (file : List ℕ) (b : Bytestream) (chunk : Chunk) (wants wants' : List ℕ → Type 0) (p : ℕ) → ((more : List ℕ) → wants more → wants' more) → IsAsked b chunk wants file p → IsAsked b chunk wants' file p
asked_wider file b chunk wants wants' p each asked front reaches =
    let on = asked front reaches in
    record { packets = on.packets; q = on.q; more = on.more; walked = on.walked; there = on.there; stream = on.stream; wanting = each on.more on.wanting; within = on.within }

asked_behind : (file : List ℕ) (b : Bytestream) (c0 c1 : Chunk) (wants wants' : List ℕ → Type 0) (bytes : List ℕ) (p : ℕ) → c1.entry ≡ c0.entry → ((more : List ℕ) → wants more → wants' (bytes ++ more))
    → ((front : List ℕ) → Reaches file b c0 front → Reaches file b c1 (front ++ bytes)) → IsAsked b c1 wants file p → IsAsked b c0 wants' file p
asked_behind file b c0 c1 wants wants' bytes p entry each on asked front reaches =
    let next = asked (front ++ bytes) (on front reaches) in
    record { packets = next.packets; q = next.q; more = bytes ++ next.more; walked = rw (← entry) next.walked; there = next.there; stream = next.stream ∙ append_assoc front bytes next.more; wanting = each next.more next.wanting; within = next.within }

met_behind : (s0 s1 s2 : SourceView) (b : Bytestream) (c0 c1 : Chunk) (wants wants1 wants2 : List ℕ → Type 0) (bytes : List ℕ) → ((more : List ℕ) → wants1 more → wants more) → ((more : List ℕ) → wants2 more → wants (bytes ++ more))
    → TakesPiece s0 b c0 wants1 bytes c1 s1 → AsksMet (IsAsked b c1 wants2) s1 s2 → AsksMet (IsAsked b c0 wants) s0 s2
met_behind s0 s1 s2 b c0 c1 wants wants1 wants2 bytes each each_too f met =
    asks_met_on (IsAsked b c0 wants) s0 s1 s2
    (asks_met_map (IsAsked b c0 wants1) (IsAsked b c0 wants) s0 s1
    (told_all (λ file. (p : ℕ) → IsAsked b c0 wants1 file p → IsAsked b c0 wants file p) s0.held (λ file p asked. asked_wider file b c0 wants1 wants p each asked)) f.met)
    (asks_met_map (IsAsked b c1 wants2) (IsAsked b c0 wants) s1 s2
    (told_map (λ file. (front : List ℕ) → Reaches file b c0 front → Reaches file b c1 (front ++ bytes)) (λ file. (p : ℕ) → IsAsked b c1 wants2 file p → IsAsked b c0 wants file p) s1.held
    (λ file on p asked. asked_behind file b c0 c1 wants2 wants bytes p f.same.entry each_too on asked)
    (told_here (λ file. (front : List ℕ) → Reaches file b c0 front → Reaches file b c1 (front ++ bytes)) s0.held s1.held f.near.asks.same.held f.reaches))
    met)

-- a piece, and then another one
pub takes_on : (s0 s1 s2 : SourceView) (b : Bytestream) (c0 c1 c2 : Chunk) (wants wants1 wants2 : List ℕ → Type 0) (bytes later : List ℕ) → ((more : List ℕ) → wants1 more → wants more) → ((more : List ℕ) → wants2 more → wants (bytes ++ more))
    → TakesPiece s0 b c0 wants1 bytes c1 s1 → TakesPiece s1 b c1 wants2 later c2 s2 → TakesPiece s0 b c0 wants (bytes ++ later) c2 s2
takes_on s0 s1 s2 b c0 c1 c2 wants wants1 wants2 bytes later each each_too f g =
    let on = f.onward in
    let too = g.onward in
    let held = f.near.asks.same.held in
    record {
      same = same_on c0 c1 c2 f.same g.same;
      onward = omega (arith, on, too);
      within = g.within;
      near = asks_near_on c0.taken c1.taken c2.taken s0 s1 s2 on too f.near g.near;
      met = met_behind s0 s1 s2 b c0 c1 wants wants1 wants2 bytes each each_too f g.met;
      reaches = told_both (λ file. (front : List ℕ) → Reaches file b c0 front → Reaches file b c1 (front ++ bytes)) (λ file. (front : List ℕ) → Reaches file b c1 front → Reaches file b c2 (front ++ later))
          (λ file. (front : List ℕ) → Reaches file b c0 front → Reaches file b c2 (front ++ (bytes ++ later))) s0.held
          (λ file one two front reaches. subst (λ (xs : List ℕ). Reaches file b c2 xs) (append_assoc front bytes later) (two (front ++ bytes) (one front reaches))) f.reaches
          (told_here (λ file. (front : List ℕ) → Reaches file b c1 front → Reaches file b c2 (front ++ later)) s1.held s0.held (sym held) g.reaches);
    }

ends_behind : (file : List ℕ) (b : Bytestream) (c0 c1 : Chunk) (wants wants' : List ℕ → Type 0) (bytes front : List ℕ) (found : Fault) → SamePlace c0 c1 → ((more : List ℕ) → wants more → wants' (bytes ++ more)) → EndsWanting file b c1 (front ++ bytes) wants found → EndsWanting file b c0 front wants' found
ends_behind file b c0 c1 wants wants' bytes front found same each ends = record {
  more = bytes ++ ends.more;
  wanting = each ends.more ends.wanting;
  finishes = same_finish file b c1.entry c0.entry c1.at c0.at ((front ++ bytes) ++ ends.more) (front ++ (bytes ++ ends.more)) found same.entry same.at (append_assoc front bytes ends.more) ends.finishes;
}

cause_behind : (s0 s1 s2 : SourceView) (b : Bytestream) (c0 c1 : Chunk) (wants wants1 wants2 : List ℕ → Type 0) (bytes : List ℕ) (found : ReadFault) → ((more : List ℕ) → wants2 more → wants (bytes ++ more))
    → TakesPiece s0 b c0 wants1 bytes c1 s1 → IsPieceCause s1 b c1 wants2 found s2 → IsPieceCause s0 b c0 wants found s2
cause_behind s0 s1 s2 b c0 c1 wants wants1 wants2 bytes (Refused found) each f cause = (
  cause.0,
  told_both (λ file. (front : List ℕ) → Reaches file b c0 front → Reaches file b c1 (front ++ bytes)) (λ file. (front : List ℕ) → Reaches file b c1 front → EndsWanting file b c1 front wants2 found)
      (λ file. (front : List ℕ) → Reaches file b c0 front → EndsWanting file b c0 front wants found) s0.held
      (λ file one two front reaches. ends_behind file b c0 c1 wants2 wants bytes front found f.same each (two (front ++ bytes) (one front reaches))) f.reaches
      (told_here (λ file. (front : List ℕ) → Reaches file b c1 front → EndsWanting file b c1 front wants2 found) s1.held s0.held (sym f.near.asks.same.held) cause.1),
)
cause_behind s0 s1 s2 b c0 c1 wants wants1 wants2 bytes Source each f cause = rose_before s0.faults s1.faults s2.faults f.near.asks.faults cause

-- a piece, and then the bytes of another one aren't all there
pub lacks_on : (s0 s1 s2 : SourceView) (b : Bytestream) (c0 c1 c2 : Chunk) (wants wants1 wants2 : List ℕ → Type 0) (bytes : List ℕ) (found : ReadFault) → ((more : List ℕ) → wants1 more → wants more) → ((more : List ℕ) → wants2 more → wants (bytes ++ more))
    → TakesPiece s0 b c0 wants1 bytes c1 s1 → LacksPiece s1 b c1 wants2 found c2 s2 → LacksPiece s0 b c0 wants found c2 s2
lacks_on s0 s1 s2 b c0 c1 c2 wants wants1 wants2 bytes found each each_too f g =
    let on = f.onward in
    let too = g.onward in
    record {
      same = same_on c0 c1 c2 f.same g.same;
      onward = omega (arith, on, too);
      within = g.within;
      met = met_behind s0 s1 s2 b c0 c1 wants wants1 wants2 bytes each each_too f g.met;
      cause = cause_behind s0 s1 s2 b c0 c1 wants wants1 wants2 bytes found each_too f g.cause;
    }
