-- The next string: its prefix, and then its bytes.
use Rattle.std.proofs.Common.{◌≡◌, ℕ, ◌+◌, ◌≤◌, List, [], ◌++◌, length, take, drop, refl, sym, subst, ap, ◌∙◌, arith}
use Rattle.std.proofs.lemmas.List.{length-take, length-drop, take-take, take_at, drop-drop}
use Rattle.e57_base.specs.Source.{SourceView}
use Rattle.e57_base.specs.declared.fault.ReadFault.{ReadFault}
use Rattle.e57_stream.specs.declared.bytestream.Bytestream.{Bytestream}
use Rattle.e57_stream.specs.declared.chunk.Chunk.{Chunk}
use Rattle.e57_texts.specs.Pieces.{IsCut, IsFewer, TakesPiece, LacksPiece, SkipsPiece, HasPrefix}
use Rattle.e57_texts.specs.Reading.{LacksText}
use Rattle.e57_texts.specs.Steps.{one_on, TakesText, SkipsText}
use Rattle.e57_texts.specs.Short.{short_length, BeginsShort}
use Rattle.e57_texts.proofs.Pieces.{takes_none, takes_moved, takes_on, lacks_on}
use Rattle.e57_texts.proofs.Texts.{cut_behind, found_behind, lacks_text}

-- the prefix is let go
abbrev behind_prefix : Chunk → List ℕ → Chunk
behind_prefix chunk window = record chunk { window = window }

takes_prefix : (s0 s1 : SourceView) (b : Bytestream) (c0 c1 : Chunk) (n size : ℕ) (window : List ℕ) → window ≡ drop size c1.window → HasPrefix s0 b c0 n size c1 s1 → TakesPiece s0 b c0 IsCut (take size c1.window) (behind_prefix c1 window) s1
takes_prefix s0 s1 b c0 c1 n size window is f = takes_moved s0 s1 b c0 c1 IsCut [] size window is f.takes

pub takes_text : (s0 s1 s2 : SourceView) (b : Bytestream) (c0 c1 c2 : Chunk) (n size : ℕ) (window text : List ℕ) → window ≡ drop size c1.window → length text ≡ n → HasPrefix s0 b c0 n size c1 s1 → TakesPiece s1 b (record c1 { window = window }) (IsFewer n) text c2 s2
    → TakesText s0 b c0 text (record c2 { at = c2.at + 1 }) s2
unfolding one_on
takes_text s0 s1 s2 b c0 c1 c2 n size window text is count f g =
    let limit = f.states.limit in
    record {
      bytes = take size c1.window ++ text;
      limit = omega (arith, limit, count);
      found = found_behind (take size c1.window) text n (f.states.stated text) count;
      mid = c2;
      takes = takes_on s0 s1 s2 b c0 (behind_prefix c1 window) c2 IsCut IsCut (IsFewer n) (take size c1.window) text (λ more e. e) (λ more few. cut_behind (take size c1.window) more n (f.states.stated more) few) (takes_prefix s0 s1 b c0 c1 n size window is f) g;
      next = refl;
    }

pub skips_text : (s0 s1 s2 : SourceView) (b : Bytestream) (c0 c1 c2 : Chunk) (n size : ℕ) (window : List ℕ) → window ≡ drop size c1.window → HasPrefix s0 b c0 n size c1 s1 → SkipsPiece s1 b (record c1 { window = window }) n c2 s2
    → SkipsText s0 b c0 (record c2 { at = c2.at + 1 }) s2
skips_text s0 s1 s2 b c0 c1 c2 n size window is f g = record { text = g.bytes; takes = takes_text s0 s1 s2 b c0 c1 c2 n size window g.bytes is g.count f g.takes }

-- the front of a buffer that was filled
front_text : (part rest : List ℕ) (n : ℕ) → length part ≡ n → take n (part ++ rest) ≡ part
front_text part rest n size = take_at part rest n size

pub reads_text : (s0 s1 s2 : SourceView) (b : Bytestream) (c0 c1 c2 : Chunk) (n size : ℕ) (window out part rest : List ℕ) → window ≡ drop size c1.window → n ≤ length out → length part ≡ length (take n out) → HasPrefix s0 b c0 n size c1 s1
    → TakesPiece s1 b (record c1 { window = window }) (IsFewer (length (take n out))) part c2 s2 → TakesText s0 b c0 (take n (part ++ rest)) (record c2 { at = c2.at + 1 }) s2
reads_text s0 s1 s2 b c0 c1 c2 n size window out part rest is fits same f g =
    let front : length (take n out) ≡ n = length-take n out ∙ omega (arith, fits) in
    subst (λ (xs : List ℕ). TakesText s0 b c0 xs (record c2 { at = c2.at + 1 }) s2) (sym (front_text part rest n (same ∙ front)))
    (takes_text s0 s1 s2 b c0 c1 c2 n size window part is (same ∙ front) f (subst (λ (k : ℕ). TakesPiece s1 b (record c1 { window = window }) (IsFewer k) part c2 s2) front g))

pub lacks_bytes : (s0 s1 s2 : SourceView) (b : Bytestream) (c0 c1 c2 : Chunk) (n size k : ℕ) (window : List ℕ) (found : ReadFault) → c0.start ≤ c0.at → window ≡ drop size c1.window → k ≡ n → HasPrefix s0 b c0 n size c1 s1
    → LacksPiece s1 b (record c1 { window = window }) (IsFewer k) found c2 s2 → LacksText s0 b c0 found c2 s2
lacks_bytes s0 s1 s2 b c0 c1 c2 n size k window found low is count f g =
    lacks_text s0 s2 b c0 c2 found low
    (lacks_on s0 s1 s2 b c0 (behind_prefix c1 window) c2 IsCut IsCut (IsFewer n) (take size c1.window) found (λ more e. e) (λ more few. cut_behind (take size c1.window) more n (f.states.stated more) few) (takes_prefix s0 s1 b c0 c1 n size window is f)
    (subst (λ (j : ℕ). LacksPiece s1 b (record c1 { window = window }) (IsFewer j) found c2 s2) count g))

-- a short string that stands whole in the window
pub short_text : (source : SourceView) (b : Bytestream) (chunk : Chunk) (n : ℕ) (out window : List ℕ) → chunk.taken ≤ b.section.end → BeginsShort chunk.window n → take short_length out ≡ take short_length (drop 1 chunk.window) → window ≡ drop (1 + n) chunk.window
    → TakesText source b chunk (take n out) (record chunk { window = window; at = chunk.at + 1 }) source
short_text source b chunk n out window within short same is =
    let few = short.few in
    let there = short.there in
    let behind = length-drop 1 chunk.window in
    let text : take n out ≡ take n (drop 1 chunk.window) = sym (take-take n short_length out few) ∙ ap (take n) same ∙ take-take n short_length (drop 1 chunk.window) few in
    let count : length (take n (drop 1 chunk.window)) ≡ n = length-take n (drop 1 chunk.window) ∙ omega (arith, few, there, behind) in
    let left : window ≡ drop n (drop 1 chunk.window) = is ∙ sym (drop-drop n 1 chunk.window) in
    subst (λ (xs : List ℕ). TakesText source b chunk xs (record chunk { window = window; at = chunk.at + 1 }) source) (sym text)
    (takes_text source source source b chunk chunk (record chunk { window = window }) n 1 (drop 1 chunk.window) (take n (drop 1 chunk.window)) refl count
    (record { takes = takes_none source b chunk IsCut within; states = short.states })
    (takes_moved source source b (behind_prefix chunk (drop 1 chunk.window)) (behind_prefix chunk (drop 1 chunk.window)) (IsFewer n) [] n window left (takes_none source b (behind_prefix chunk (drop 1 chunk.window)) (IsFewer n) within)))
