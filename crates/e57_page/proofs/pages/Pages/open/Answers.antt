use Rattle.e57_page.proofs.Keeping.{sound_first, keeps_first_alone}
use Rattle.e57_page.proofs.pages.Pages.open.Goals as goal

pub invariant_of-result : goal.invariant_of-result
invariant_of-result g c =
    let opened = c.in-Ok.ensures in
    let kept = c.keep_first.ensures in
    sound_first (g.S.Source.view c.args.source) (g.S.Source.view c.fetch_first.new.source) c.args.length c.args.length c.in-Ok.header c.keep_first.result.numbers c.keep_first.result.pages c.fetch_first.new.page c.requires opened.0 kept.numbers kept.page opened.1

pub returns-in-Ok-clause-kept : goal.returns-in-Ok-clause-kept
returns-in-Ok-clause-kept g c = keeps_first_alone c.keep_first.result.numbers c.keep_first.ensures.numbers
