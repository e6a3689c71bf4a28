-- What a window's buffer holds.
use Rattle.std.proofs.Common.{◌≡◌, ℕ, ◌+◌, ◌-◌, ◌≤◌, List, length, take, drop, sym, ap, ◌∙◌, arith}
use Rattle.std.proofs.lemmas.List.{drop-take, drop-drop, length-take, length-drop}
use Rattle.e57_stream.specs.Window.{held_bytes}

pub length-held : (buffer : List ℕ) (begin end : ℕ) → begin ≤ end → end ≤ length buffer → length (held_bytes buffer begin end) ≡ end - begin
length-held buffer begin end order within =
    let size = length-drop begin buffer in
    length-take (end - begin) (drop begin buffer) ∙ omega (arith, size, order, within)

pub held-skip : (buffer : List ℕ) (begin end n : ℕ) → begin + n ≤ end → held_bytes buffer (begin + n) end ≡ drop n (held_bytes buffer begin end)
held-skip buffer begin end n order =
    let parts : n + (end - (begin + n)) ≡ end - begin = omega arith in
    ap (take (end - (begin + n))) (sym (drop-drop n begin buffer)) ∙ sym (drop-take n (end - (begin + n)) (drop begin buffer)) ∙ ap (λ (m : ℕ). drop n (take m (drop begin buffer))) parts
