use Rattle.std.proofs.Common.{◌≡◌, ◌+◌, ◌/◌, false, true, Some, None, Ok, Err, refl, sym, subst}
use Rattle.std.specs.Option.{option_map}
use Rattle.e57_base.specs.Target.{PutsPage}
use Rattle.e57_page_out.specs.Buffer.{bytes_so_far, size_so_far, IsSound, IsSoundUnless, writing}
use Rattle.e57_page_out.specs.Writing.{Writes, IsBrokenOff}
use Rattle.e57_page_out.specs.declared.buffer.Held.TheVariants.{Nothing, Whole}
use Rattle.e57_page_out.proofs.Steps.{by_sound}
use Rattle.e57_page_out.proofs.Holding.{with_held, freed, let_go, released, released_sound, not_released}
use Rattle.e57_page_out.proofs.pages_out.PagesOut.release.Goals as goal

pub returns-in-Err-clause-released : goal.returns-in-Err-clause-released
returns-in-Err-clause-released g c =
    let view = g.T.Target.view in
    let inside = c.self.inside in
    let buffer = inside.buffer in
    let puts = subst (λ p. PutsPage {T = Unit {0}} (view inside.target) c.in-Whole.n p (Err c.in-Err.field-0) (view c.put_page.new.self)) c.seal.ensures c.in-Err.ensures in
    let after = record buffer { held = Nothing; kept = c.seal.new.page } in (
      refl,
      by_sound view inside.target buffer inside.is_spent c.args.self.now
          (λ now spent. IsBrokenOff view now (now.size / 1020 + 1) (writing view c.put_page.new.self after true))
          c.self.view_is c.requires.unspent c.self.invariant
          (λ sound. subst (λ h. IsBrokenOff view (writing view inside.target (with_held h buffer) false) (size_so_far buffer / 1020 + 1) (writing view c.put_page.new.self after true)) (sym c.in-Whole.is)
          (not_released view inside.target buffer c.in-Whole.n (subst (λ h. IsSound (view inside.target) (with_held h buffer)) c.in-Whole.is sound) c.put_page.new.self after c.in-Err.field-0 puts)),
    )

pub invariant_of-self-in_default-put_page : goal.invariant_of-self-in_default-put_page
invariant_of-self-in_default-put_page g c =
    let view = g.T.Target.view in
    let inside = c.self.inside in
    let buffer = inside.buffer in
    let puts = subst (λ p. PutsPage {T = Unit {0}} (view inside.target) c.in-Whole.n p (Ok c.in_default-put_page.field-0) (view c.put_page.new.self)) c.seal.ensures c.in_default-put_page.ensures in
    by_sound view inside.target buffer inside.is_spent c.args.self.now
    (λ now spent. IsSoundUnless spent (view c.put_page.new.self) (record buffer { held = Nothing; kept = c.seal.new.page }))
    c.self.view_is c.requires.unspent c.self.invariant
    (λ sound. subst (λ p. IsSoundUnless false (view c.put_page.new.self) (record buffer { held = Nothing; kept = p })) (sym c.seal.ensures)
    (released_sound view inside.target buffer c.in-Whole.n (subst (λ h. IsSound (view inside.target) (with_held h buffer)) c.in-Whole.is sound) c.put_page.new.self c.in_default-put_page.field-0 puts))

pub returns-in_default-put_page-clause-released : goal.returns-in_default-put_page-clause-released
returns-in_default-put_page-clause-released g c =
    let view = g.T.Target.view in
    let inside = c.self.inside in
    let buffer = inside.buffer in
    let puts = subst (λ p. PutsPage {T = Unit {0}} (view inside.target) c.in-Whole.n p (Ok c.in_default-put_page.field-0) (view c.put_page.new.self)) c.seal.ensures c.in_default-put_page.ensures in
    by_sound view inside.target buffer inside.is_spent c.args.self.now
    (λ now spent. Writes view now now.told_bytes now.size None (writing view c.put_page.new.self (record buffer { held = Nothing; kept = c.seal.new.page }) spent))
    c.self.view_is c.requires.unspent c.self.invariant
    (λ sound. subst (λ h. Writes view (writing view inside.target (with_held h buffer) false) (option_map (bytes_so_far (with_held h buffer)) (view inside.target).held) (size_so_far buffer) None (writing view c.put_page.new.self (record buffer { held = Nothing; kept = c.seal.new.page }) false)) (sym c.in-Whole.is)
    (subst (λ p. Writes view (writing view inside.target (with_held (Whole c.in-Whole.n) buffer) false) (option_map (bytes_so_far (with_held (Whole c.in-Whole.n) buffer)) (view inside.target).held) (size_so_far buffer) None (writing view c.put_page.new.self (record buffer { held = Nothing; kept = p }) false)) (sym c.seal.ensures)
    (released view inside.target buffer c.in-Whole.n (subst (λ h. IsSound (view inside.target) (with_held h buffer)) c.in-Whole.is sound) c.put_page.new.self c.in_default-put_page.field-0 puts)))

pub returns-in_default : goal.returns-in_default
returns-in_default g c =
    let view = g.T.Target.view in
    let inside = c.self.inside in
    let buffer = inside.buffer in
    by_sound view inside.target buffer inside.is_spent c.args.self.now
    (λ now spent. record {
      released : Writes view now now.told_bytes now.size None (writing view inside.target (with_held Nothing buffer) spent);
      begun : now.held ≡ Some (now.size / 1020) → (true ≡ true) × (writing view inside.target (with_held Nothing buffer) spent ≡ record now { held = None });
    })
    c.self.view_is c.requires.unspent c.self.invariant
    (λ sound. record {
      released = freed view inside.target buffer sound c.in_default.not-Whole;
      begun = λ is. (refl, (let_go view inside.target buffer buffer.held sound c.in_default.not-Whole).1);
    })
