-- A text has one tree or one first fault.
use Rattle.std.proofs.Common.{◌≡◌, ℕ, ◌-◌, ◌≤◌, ◌⊎◌, List, [], ◌∷◌, ◌++◌, length, Some, None, sym, ap, subst, ◌∙◌, inl, inr, append_assoc, arith}
use Rattle.std.specs.Prelude.{IsUtf8}
use Rattle.std.proofs.lemmas.List.{append-nil}
use Rattle.std.proofs.lemmas.Bool.{cases_lt}
use Rattle.e57_base.specs.Fault.{fault}
use Rattle.e57_base.specs.declared.fault.Fault.{Fault}
use Rattle.e57_base.specs.declared.kind.Kind.TheVariants as kind
use Rattle.e57_pieces.specs.declared.piece.Piece.{Piece}
use Rattle.e57_pieces.specs.Cut.{NoPiece, IsNext, IsFront, IsCut}
use Rattle.e57_pieces.proofs.Laws.Cut.{IsUtf8-front, front_goes_on, cut_longest, one_cut}
use Rattle.e57_pieces.proofs.Laws.Next.{next_some, one_next}
use Rattle.e57_pieces.proofs.Laws.Start.{one_body, begins_somewhere, IsUtf8-body}
use Rattle.e57_elements.specs.Tree.{Element, preorder}
use Rattle.e57_elements.specs.Nested.{Nested, Alive}
use Rattle.e57_elements.specs.Lawful.{IsLawful}
use Rattle.e57_elements.specs.Spells.{Spells}
use Rattle.e57_elements.specs.Fault.{AreSound, IsPieceFault, IsStopFault, IsBodyFault, IsFirstFault}
use Rattle.e57_elements.specs.Machine.{reading, done, run}
use Rattle.e57_elements.proofs.Runs.{nested_runs}
use Rattle.e57_elements.proofs.Counts.{Fits, fits_passes}
use Rattle.e57_elements.proofs.Led.{few_from}

-- ---- trees

one_tree : (pieces : List Piece) (a b : Element) → Nested pieces a → Nested pieces b → a ≡ b
one_tree pieces a b f g = let h : Some (done a) ≡ Some (done b) = sym (nested_runs pieces a f) ∙ nested_runs pieces b g in cc

pub one_spelled : (text : List ℕ) (a b : Element) → Spells text a → Spells text b → a ≡ b
one_spelled text a b f g =
    let same_body = one_body text f.body g.body f.utf8 f.begins g.begins in
    let cut = subst (λ (body : List ℕ). IsCut body f.pieces []) same_body f.is_cut in
    let same = one_cut f.pieces g.pieces g.body [] [] (IsUtf8-body text g.body g.utf8 g.begins) cut g.is_cut in
    one_tree g.pieces a b (subst (λ (ps : List Piece). Nested ps a) same.0 f.nested) g.nested

-- ---- a tree and a fault

alive_before : (before after pieces : List Piece) (piece : Piece) (tree : Element) → pieces ≡ before ++ piece ∷ after → Nested pieces tree → Alive (before ++ piece ∷ [])
alive_before before after pieces piece tree parts nested =
    record { rest = after; tree = tree; nested = subst (λ (ps : List Piece). Nested ps tree) (parts ∙ sym (append_assoc before (piece ∷ []) after)) nested }

tree_fits : (tree : Element) → IsLawful tree → Fits (done tree)
tree_fits tree h = record { attrs = few_from (preorder tree) h.each; depth = h.not_deep; count = h.not_large }

abbrev pub FaultHere : ℕ → List Piece → List ℕ → Fault → Type 0
FaultHere len before here fault =
    ((piece : Piece) × (rest : List ℕ) × IsNext here piece rest × IsPieceFault before piece (len - length here) fault)
    ⊎ (NoPiece here × IsStopFault before here (len - length here) fault)

no_piece_fault : (before after pieces : List Piece) (piece : Piece) (tree : Element) (byte : ℕ) (fault : Fault) → pieces ≡ before ++ piece ∷ after → Nested pieces tree → IsLawful tree → IsPieceFault before piece byte fault → ⊥
no_piece_fault before after pieces piece tree byte fault parts nested lawful (inl (dead, is)) = dead (alive_before before after pieces piece tree parts nested)
no_piece_fault before after pieces piece tree byte fault parts nested lawful (inr (alive, b, passed, is)) =
    let none = fits_passes before after piece (done tree) (ap (run (Some (reading []))) (sym parts) ∙ nested_runs pieces tree nested) (tree_fits tree lawful) in
    let f : None ≡ Some b = sym none ∙ passed in cc

no_stop_fault : (before pieces : List Piece) (here : List ℕ) (tree : Element) (byte : ℕ) (fault : Fault) → pieces ≡ before ++ [] → here ≡ [] → Nested pieces tree → IsStopFault before here byte fault → ⊥
no_stop_fault before pieces [] tree byte fault parts empty nested stop = stop.0 tree (subst (λ (ps : List Piece). Nested ps tree) (parts ∙ append-nil before) nested)
no_stop_fault before pieces (b ∷ bs) tree byte fault parts empty nested stop = cc

no_fault_here : (len : ℕ) (before after pieces : List Piece) (here : List ℕ) (tree : Element) (fault : Fault) → IsUtf8 here → pieces ≡ before ++ after → IsFront here after [] → NoPiece [] → Nested pieces tree → IsLawful tree
    → FaultHere len before here fault → ⊥
no_fault_here len before [] pieces here tree fault utf8 parts front none_left nested lawful (inl (piece, rest, next, is_fault)) = next_some [] piece rest (subst (λ (h : List ℕ). IsNext h piece rest) front next) none_left
no_fault_here len before (z ∷ zs) pieces here tree fault utf8 parts (after, next_z, front) none_left nested lawful (inl (piece, rest, next, is_fault)) =
    let same = one_next here z piece after rest utf8 next_z next in
    no_piece_fault before zs pieces piece tree (len - length here) fault (parts ∙ ap (λ x. before ++ x ∷ zs) same.0) nested lawful is_fault
no_fault_here len before [] pieces here tree fault utf8 parts front none_left nested lawful (inr (none_here, is_fault)) = no_stop_fault before pieces here tree (len - length here) fault parts front nested is_fault
no_fault_here len before (z ∷ zs) pieces here tree fault utf8 parts (after, next_z, front) none_left nested lawful (inr (none_here, is_fault)) = next_some here z after next_z none_here

no_body_fault : (len : ℕ) (body : List ℕ) (pieces : List Piece) (tree : Element) (fault : Fault) → IsUtf8 body → IsCut body pieces [] → Nested pieces tree → IsLawful tree → IsBodyFault len body fault → ⊥
no_body_fault len body pieces tree fault utf8 cut nested lawful f =
    let (after, parts, front) = front_goes_on f.before pieces body f.here [] utf8 f.is_front cut.is_front (cut_longest pieces f.before body [] f.here utf8 cut f.is_front) in
    no_fault_here len f.before after pieces f.here tree fault (IsUtf8-front f.before body f.here utf8 f.is_front) parts front cut.is_longest nested lawful f.is_fault

pub never_both : (text : List ℕ) (tree : Element) (fault : Fault) → Spells text tree → IsLawful tree → IsFirstFault text fault → ⊥
never_both text tree fault h lawful (inl (no_utf8, is)) = no_utf8 h.utf8
never_both text tree fault h lawful (inr (inl (utf8, (nowhere, is)))) = begins_somewhere text h.body h.begins nowhere
never_both text tree fault h lawful (inr (inr (utf8, body, begins, f))) =
    let same = one_body text h.body body utf8 h.begins begins in
    no_body_fault (length text) body h.pieces tree fault (IsUtf8-body text body utf8 begins) (subst (λ (b : List ℕ). IsCut b h.pieces []) same h.is_cut) h.nested lawful f

-- ---- two faults

one_piece_fault : (before : List Piece) (piece : Piece) (byte : ℕ) (f g : Fault) → IsPieceFault before piece byte f → IsPieceFault before piece byte g → f ≡ g
one_piece_fault before piece byte f g (inl (dead, is_f)) (inl (dead_too, is_g)) = is_f ∙ sym is_g
one_piece_fault before piece byte f g (inl (dead, is_f)) (inr (alive, b, passed, is_g)) = absurd (dead alive)
one_piece_fault before piece byte f g (inr (alive, b, passed, is_f)) (inl (dead, is_g)) = absurd (dead alive)
one_piece_fault before piece byte f g (inr (alive, b, passed, is_f)) (inr (alive_too, c, passed_too, is_g)) =
    let e : Some b ≡ Some c = sym passed ∙ passed_too in
    let same : b ≡ c = cc in
    is_f ∙ ap (λ n. fault kind.TreeLimit byte n) same ∙ sym is_g

one_stop_fault : (before : List Piece) (here : List ℕ) (byte : ℕ) (f g : Fault) → IsStopFault before here byte f → IsStopFault before here byte g → f ≡ g
one_stop_fault before [] byte f g a b = a.1 ∙ sym b.1
one_stop_fault before (c ∷ cs) byte f g a b = a ∙ sym b

one_fault_here : (len : ℕ) (before : List Piece) (here : List ℕ) (f g : Fault) → IsUtf8 here → FaultHere len before here f → FaultHere len before here g → f ≡ g
one_fault_here len before here f g utf8 (inl (x, r, next_x, is_f)) (inl (y, s, next_y, is_g)) =
    let same = one_next here x y r s utf8 next_x next_y in
    one_piece_fault before y (len - length here) f g (subst (λ p. IsPieceFault before p (len - length here) f) same.0 is_f) is_g
one_fault_here len before here f g utf8 (inl (x, r, next_x, is_f)) (inr (none_here, is_g)) = absurd (next_some here x r next_x none_here)
one_fault_here len before here f g utf8 (inr (none_here, is_f)) (inl (y, s, next_y, is_g)) = absurd (next_some here y s next_y none_here)
one_fault_here len before here f g utf8 (inr (none_here, is_f)) (inr (none_too, is_g)) = one_stop_fault before here (len - length here) f g is_f is_g

alive_front : (xs ys : List Piece) → Alive (xs ++ ys) → Alive xs
alive_front xs ys h = record { rest = ys ++ h.rest; tree = h.tree; nested = subst (λ (ps : List Piece). Nested ps h.tree) (append_assoc xs ys h.rest) h.nested }

-- a fault where sound pieces go on
no_fault_within : (len : ℕ) (before after pieces : List Piece) (z : Piece) (here rest : List ℕ) (f : Fault) → IsUtf8 here → pieces ≡ before ++ z ∷ after → IsNext here z rest → AreSound pieces → FaultHere len before here f → ⊥
no_fault_within len before after pieces z here rest f utf8 parts next_z sound (inl (x, r, next_x, is_f)) = go (subst (λ p. IsPieceFault before p (len - length here) f) (one_next here x z r rest utf8 next_x next_z).0 is_f) where
  go : IsPieceFault before z (len - length here) f → ⊥
  go (inl (dead, is)) = dead (alive_front (before ++ z ∷ []) after (subst Alive (parts ∙ sym (append_assoc before (z ∷ []) after)) sound.alive))
  go (inr (alive, b, passed, is)) = let e : None ≡ Some b = sym (sound.within before after z parts) ∙ passed in cc
no_fault_within len before after pieces z here rest f utf8 parts next_z sound (inr (none_here, is_f)) = next_some here z rest next_z none_here

first_is_one : (len : ℕ) (body : List ℕ) (f g : Fault) (a : IsBodyFault len body f) (b : IsBodyFault len body g) → IsUtf8 body → length a.before ≤ length b.before → f ≡ g
first_is_one len body f g a b utf8 le =
    let (after, parts, front) = front_goes_on a.before b.before body a.here b.here utf8 a.is_front b.is_front le in
    go after parts front where
      go : (after : List Piece) → b.before ≡ a.before ++ after → IsFront a.here after b.here → f ≡ g
      go [] parts same_here =
          let same_before : b.before ≡ a.before = parts ∙ append-nil a.before in
          let moved = subst (λ (h : List ℕ). FaultHere len a.before h g) (sym same_here) (subst (λ (ps : List Piece). FaultHere len ps b.here g) same_before b.is_fault) in
          one_fault_here len a.before a.here f g (IsUtf8-front a.before body a.here utf8 a.is_front) a.is_fault moved
      go (z ∷ zs) parts (rest, next_z, front) = absurd (no_fault_within len a.before zs b.before z a.here rest f (IsUtf8-front a.before body a.here utf8 a.is_front) parts next_z b.are_sound a.is_fault)

one_body_fault : (len : ℕ) (body : List ℕ) (f g : Fault) → IsUtf8 body → IsBodyFault len body f → IsBodyFault len body g → f ≡ g
one_body_fault len body f g utf8 a b =
    elim (cases_lt (length a.before) (length b.before)) [
      | inl lt ↦ first_is_one len body f g a b utf8 (omega arith)
      | inr le ↦ sym (first_is_one len body g f b a utf8 le)
    ]

pub one_first_fault : (text : List ℕ) (f g : Fault) → IsFirstFault text f → IsFirstFault text g → f ≡ g
one_first_fault text f g (inl (no_utf8, is_f)) (inl (no_utf8_too, is_g)) = is_f ∙ sym is_g
one_first_fault text f g (inl (no_utf8, is_f)) (inr (inl (utf8, start))) = absurd (no_utf8 utf8)
one_first_fault text f g (inl (no_utf8, is_f)) (inr (inr (utf8, body, begins, b))) = absurd (no_utf8 utf8)
one_first_fault text f g (inr (inl (utf8, start))) (inl (no_utf8, is_g)) = absurd (no_utf8 utf8)
one_first_fault text f g (inr (inl (utf8, (nowhere, is_f)))) (inr (inl (utf8_too, (nowhere_too, is_g)))) = is_f ∙ sym is_g
one_first_fault text f g (inr (inl (utf8, (nowhere, is_f)))) (inr (inr (utf8_too, body, begins, b))) = absurd (begins_somewhere text body begins nowhere)
one_first_fault text f g (inr (inr (utf8, body, begins, a))) (inl (no_utf8, is_g)) = absurd (no_utf8 utf8)
one_first_fault text f g (inr (inr (utf8, body, begins, a))) (inr (inl (utf8_too, (nowhere, is_g)))) = absurd (begins_somewhere text body begins nowhere)
one_first_fault text f g (inr (inr (utf8, body, begins, a))) (inr (inr (utf8_too, body_too, begins_too, b))) =
    let same = one_body text body body_too utf8 begins begins_too in
    one_body_fault (length text) body_too f g (IsUtf8-body text body_too utf8 begins_too) (subst (λ (t : List ℕ). IsBodyFault (length text) t f) same a) b
