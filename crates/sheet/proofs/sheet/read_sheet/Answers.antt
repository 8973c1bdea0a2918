use Rattle.sheet.proofs.Sheets.{gives_stated, stated_given, told_first}
use Rattle.sheet.proofs.sheet.read_sheet.Goals as goal

pub returns-clause-states : goal.returns-clause-states
returns-clause-states g c = gives_stated g.F.Field.model g.met.F.Field.lawful c.args.terms.now c.args.sheet.now c.args.tray.now _ _ c.read.ensures.answer c.read.ensures.tray

pub returns-clause-gives : goal.returns-clause-gives
returns-clause-gives g c = stated_given g.F.Field.model g.met.F.Field.lawful c.args.terms.now c.args.sheet.now c.args.tray.now _ _ c.read.ensures.answer c.read.ensures.tray

pub returns-clause-first : goal.returns-clause-first
returns-clause-first g c = told_first g.F.Field.model g.met.F.Field.lawful c.args.terms.now c.args.sheet.now c.args.tray.now _ c.read.ensures.answer
