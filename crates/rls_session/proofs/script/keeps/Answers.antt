use Rattle.rls_engine.specs.rls_core.specs.Headline.{AreAdmitted, AreRecorded, NumbersDiffer}
use Rattle.rls_session.proofs.LedLemmas.{led_asked, led_to}
use Rattle.rls_session.proofs.script.keeps.Goals as goal

pub returns-clause-numbers : goal.returns-clause-numbers
returns-clause-numbers g c = led_to NumbersDiffer _ c.args.book.now.seen c.core_rules_are_safe.ensures c.events_keep.ensures.numbers c.requires

pub returns-clause-recorded : goal.returns-clause-recorded
returns-clause-recorded g c = led_to AreRecorded _ c.args.book.now.seen c.core_rules_are_safe.ensures c.events_keep.ensures.records c.requires

pub returns-clause-admitted : goal.returns-clause-admitted
returns-clause-admitted g c = led_to AreAdmitted _ c.args.book.now.seen c.core_rules_are_safe.ensures c.events_keep.ensures.admitted c.requires

pub returns-clause-asked : goal.returns-clause-asked
returns-clause-asked g c = led_asked _ c.args.book.now.seen c.requires
