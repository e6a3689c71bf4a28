-- Each text spells a lawful tree, or has a first fault.
use Rattle.std.proofs.Common.{◌≡◌, ℕ, zero, suc, ◌-◌, ◌<◌, ◌⊎◌, Bool, true, false, List, [], ◌∷◌, length, refl, inl, inr, arith}
use Rattle.std.specs.Str.{IsUtf8, is_utf8}
use Rattle.std.specs.Str.Lossy.{utf8_valid_len}
use Rattle.std.proofs.lemmas.Str.{IsUtf8-from_is_utf8, is_utf8-from_IsUtf8}
use Rattle.e57_base.specs.Fault.{fault}
use Rattle.e57_base.specs.declared.fault.Fault.{Fault}
use Rattle.e57_base.specs.declared.kind.Kind.TheVariants as kind
use Rattle.e57_pieces.specs.Cut.{NoPiece}
use Rattle.e57_pieces.specs.Start.{start_place, Begins}
use Rattle.e57_pieces.specs.Reading.{next_at, body_at}
use Rattle.e57_pieces.proofs.Laws.Next.{is_next, no_next, next_shorter, IsUtf8-next}
use Rattle.e57_pieces.proofs.Laws.Start.{begins_is, begins_nowhere, IsUtf8-body}
use Rattle.e57_elements.specs.declared.tree.RawNode.{RawNode}
use Rattle.e57_elements.specs.Fault.{IsBodyFault, HasAnswer}
use Rattle.e57_elements.specs.Machine.{State, reading, done, step, passes_in}
use Rattle.e57_elements.specs.Builder.{ReadsBody}
use Rattle.e57_elements.proofs.Led.{Led, led_start, led_next, nest_fault, limit_fault, piece_fault, end_fault, end_tree}
use Rattle.e57_base.proofs.Options.{option_cases}

tested : (b : Bool) → (b ≡ true) ⊎ (b ≡ false)
tested true = inl refl
tested false = inr refl

-- ---- of a body

abbrev BodyAnswer : ℕ → List ℕ → Type 0
BodyAnswer len body = ((nodes : List RawNode) × ReadsBody body nodes) ⊎ ((fault : Fault) × IsBodyFault len body fault)

at_stop : (len : ℕ) (body here : List ℕ) → Led body here → NoPiece here → BodyAnswer len body
at_stop len body [] l none_here = go l.state refl where
  go : (s : State) → l.state ≡ s → BodyAnswer len body
  go (reading opens) is = inr (_, end_fault len body opens l none_here is)
  go (done d) is = inl (_, end_tree body d l none_here is)
at_stop len body (b ∷ bs) l none_here = inr (_, piece_fault len body b bs l none_here)

walk : (n len : ℕ) (body here : List ℕ) → length here < n → IsUtf8 here → Led body here → BodyAnswer len body
walk zero len body here lt utf8 l = absurd (omega arith)
walk (suc n) len body here lt utf8 l =
    elim (option_cases (next_at here)) [
      | inl none ↦ at_stop len body here l (no_next here utf8 none)
      | inr found ↦
          let next = is_next here found.0.0 found.0.1 utf8 found.1 in
          elim (option_cases (step l.state found.0.0)) [
            | inl dead ↦ inr (_, nest_fault len body here found.0.1 found.0.0 l next dead)
            | inr after ↦
                elim (option_cases (passes_in l.state found.0.0)) [
                  | inr passed ↦ inr (_, limit_fault len body here found.0.1 found.0.0 after.0 passed.0 l next after.1 passed.1)
                  | inl fits ↦
                      walk n len body found.0.1 (omega (arith, next_shorter here found.0.0 found.0.1 next)) (IsUtf8-next here found.0.0 found.0.1 utf8 next)
                      (led_next body here found.0.1 found.0.0 after.0 l next after.1 fits)
                ]
          ]
    ]

-- ---- of a text

from_body : (text body : List ℕ) → IsUtf8 text → Begins text body → BodyAnswer (length text) body → HasAnswer text
from_body text body utf8 begins (inl (nodes, reads)) =
    inl (
      reads.tree,
      record { utf8 = utf8; body = body; begins = begins; pieces = reads.pieces; is_cut = reads.is_cut; nested = reads.nested },
      reads.is_lawful,
    )
from_body text body utf8 begins (inr (fault, is)) = inr (fault, inr (inr (utf8, body, begins, is)))

of_utf8 : (text : List ℕ) → IsUtf8 text → HasAnswer text
of_utf8 text utf8 =
    elim (option_cases (body_at text)) [
      | inl none ↦ inr (fault kind.Piece (start_place text) 0, inr (inl (utf8, (begins_nowhere text utf8 none, refl))))
      | inr found ↦
          let begins = begins_is text found.0 utf8 found.1 in
          from_body text found.0 utf8 begins (walk (suc (length found.0)) (length text) found.0 found.0 (omega arith) (IsUtf8-body text found.0 utf8 begins) (led_start found.0))
    ]

both_ways : (b : Bool) → b ≡ true → b ≡ false → ⊥
both_ways true e f = cc
both_ways false e f = cc

pub some_answer : (text : List ℕ) → HasAnswer text
some_answer text =
    elim (tested (is_utf8 text)) [
      | inl valid ↦ of_utf8 text (IsUtf8-from_is_utf8 text valid)
      | inr invalid ↦ inr (fault kind.XmlUtf8 (utf8_valid_len text) 0, inl ((λ utf8. both_ways (is_utf8 text) (is_utf8-from_IsUtf8 text utf8) invalid), refl))
    ]
