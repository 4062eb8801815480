use Rattle.std.proofs.Common.{string_bytes}
use Rattle.rls_lint.proofs.TextLemmas.{lacks_text}
use Rattle.rls_lint.proofs.texts.unreadable_text.Goals as goal

pub returns : goal.returns
returns c =
    lacks_text c.args.table.now (string_bytes c.in_ok-text.text) (string_bytes c.push_names.new.text) c.refused_text.result.now (string_bytes c.push_str.new.self) c.args.roles.now
    c.in_ok-text.ensures c.in_ok-push_names.ensures c.refused_text.ensures c.in_ok-push_str.ensures.bytes
