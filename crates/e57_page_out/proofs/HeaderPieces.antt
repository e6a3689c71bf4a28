-- Pieces that are written one behind another from the front.
use Rattle.std.proofs.Common.{◌≡◌, ℕ, ◌+◌, List, [], ◌++◌, length, drop, codes, refl, ap, ◌∙◌, arith}
use Rattle.std.proofs.lemmas.List.{append_assoc, length-append}
use Rattle.e57_base.specs.MemTarget.{with_piece}
use Rattle.e57_layout.specs.Bytes.{low_bytes}
use Rattle.e57_page.specs.declared.header.Header.{Header}
use Rattle.e57_page_out.specs.HeaderBytes.{header_bytes}
use Rattle.e57_page_out.proofs.PieceLaws.{piece-next}

-- the first bytes are these, so many, and the others are as they were
pub record Fronted (old front : List ℕ) (count : ℕ) (now : List ℕ) : Type 0 where
  pub size : length front ≡ count
  pub bytes : now ≡ front ++ drop count old

pub fronted_none : (bytes : List ℕ) → Fronted bytes [] 0 bytes
fronted_none bytes = record { size = refl; bytes = refl }

pub fronted_next : (bytes front piece written : List ℕ) (at count : ℕ) (old new : List ℕ) → Fronted bytes front at old → length piece ≡ count → written ≡ piece → new ≡ with_piece at written old → Fronted bytes (front ++ piece) (at + count) new
fronted_next bytes front piece written at count old new so_far size same is =
    record {
      size = omega (arith, length-append front piece, so_far.size);
      bytes = is ∙ ap (λ (xs : List ℕ). with_piece at xs old) same ∙ ap (with_piece at piece) so_far.bytes ∙ piece-next at front piece bytes so_far.size ∙ ap (λ k. front ++ piece ++ drop (at + k) bytes) size;
    }

-- the seven fields of the header
pub header_fronted : (h : Header) (bytes now : List ℕ) → Fronted bytes ([] ++ codes "ASTM-E57" ++ low_bytes 4 1 ++ low_bytes 4 0 ++ low_bytes 8 h.length ++ low_bytes 8 h.xml_place ++ low_bytes 8 h.xml_length ++ low_bytes 8 1024) 48 now → now ≡ header_bytes h ++ drop 48 bytes
unfolding header_bytes
header_fronted h bytes now done =
    done.bytes ∙ ap (λ (xs : List ℕ). xs ++ drop 48 bytes) (seven (codes "ASTM-E57") (low_bytes 4 1) (low_bytes 4 0) (low_bytes 8 h.length) (low_bytes 8 h.xml_place) (low_bytes 8 h.xml_length) (low_bytes 8 1024))
  where
    seven : (a b c d e f g : List ℕ) → [] ++ a ++ b ++ c ++ d ++ e ++ f ++ g ≡ a ++ (b ++ (c ++ (d ++ (e ++ (f ++ g)))))
    seven a b c d e f g =
        rw (
          append_assoc a b c,
          append_assoc a (b ++ c) d,
          append_assoc b c d,
          append_assoc a (b ++ (c ++ d)) e,
          append_assoc b (c ++ d) e,
          append_assoc c d e,
          append_assoc a (b ++ (c ++ (d ++ e))) f,
          append_assoc b (c ++ (d ++ e)) f,
          append_assoc c (d ++ e) f,
          append_assoc d e f,
          append_assoc a (b ++ (c ++ (d ++ (e ++ f)))) g,
          append_assoc b (c ++ (d ++ (e ++ f))) g,
          append_assoc c (d ++ (e ++ f)) g,
          append_assoc d (e ++ f) g,
          append_assoc e f g,
        ) refl
