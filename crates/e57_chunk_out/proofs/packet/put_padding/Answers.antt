use Rattle.std.proofs.Common.{◌≡◌, ℕ, ◌+◌, ◌-◌, ◌<◌, ◌≤◌, List, [], ◌∷◌, length, take, replicate, sym, ap, subst, ◌∙◌, arith}
use Rattle.std.proofs.lemmas.List.{length-take-le}
use Rattle.e57_layout.specs.Packets.{padding, whole_words}
use Rattle.e57_page_out.specs.Sequences.{Loses, Puts}
use Rattle.e57_page_out.specs.Writing.{most_bytes}
use Rattle.e57_page_out.proofs.Sequences.{loses_piece, spent_piece}
use Rattle.e57_chunk_out.proofs.Cuts.{few_zeros}
use Rattle.e57_chunk_out.proofs.packet.put_padding.Goals as goal

-- the zeros that are put
zeros : (size words : ℕ) → words ≡ whole_words size → words ≤ size + 3 → take (words - size) (0 ∷ 0 ∷ 0 ∷ []) ≡ padding size
unfolding padding
zeros size words is few = few_zeros (words - size) (omega arith) ∙ ap (λ w. replicate (w - size) 0) is

pub slice_bounds-zeros-count : goal.slice_bounds-zeros-count
slice_bounds-zeros-count g c = c.words_for.ensures.least

pub slice_bounds-zeros-end : goal.slice_bounds-zeros-end
slice_bounds-zeros-end g c = omega (arith, c.words_for.ensures.few)

pub slice_bounds-put-length : goal.slice_bounds-put-length
slice_bounds-put-length g c = sym (length-take-le {A = ℕ} (c.words_for.result - c.args.size) (0 ∷ 0 ∷ 0 ∷ []) (omega (arith, c.words_for.ensures.few)))

pub returns-in-Err : goal.returns-in-Err
returns-in-Err g c =
    let same = zeros c.args.size c.words_for.result c.words_for.ensures.words c.words_for.ensures.few in (
      spent_piece g.T.Target.view c.args.out.now (length (take (c.words_for.result - c.args.size) (0 ∷ 0 ∷ 0 ∷ []))) c.in-Err.fault c.put.new.self c.in-Err.ensures.put,
      subst (λ (bytes : List ℕ). Loses g.T.Target.view c.args.out.now (most_bytes < c.args.out.now.size + length bytes) c.in-Err.fault (g.T.Target.view c.put.new.self.target)) same
          (loses_piece g.T.Target.view c.args.out.now (length (take (c.words_for.result - c.args.size) (0 ∷ 0 ∷ 0 ∷ []))) c.in-Err.fault c.put.new.self c.in-Err.ensures.put),
    )

pub returns : goal.returns
returns g c =
    subst (λ (bytes : List ℕ). Puts g.T.Target.view c.args.out.now bytes c.put.new.self) (zeros c.args.size c.words_for.result c.words_for.ensures.words c.words_for.ensures.few) c.in_default.ensures.put
