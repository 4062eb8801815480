use Rattle.std.proofs.Common.{Some}
use Rattle.rls_printing.specs.Outputs.{output_of}
use Rattle.rls_printing.proofs.Naming.{named_put}
use Rattle.rls_printing.proofs.privileges.put_named.Goals as goal

pub returns : goal.returns
returns c =
    named_put c.args.privileges.now c.is_named-select.result c.either-insert.result c.either-update.result c.is_named.result c.is_named-2.result
    (Some (output_of c.args.buffer.now)) (Some (output_of c.put_extent.new.buffer)) (Some (output_of c.put_extent-2.new.buffer)) (Some (output_of c.put_extent-3.new.buffer)) (Some (output_of c.put_whole_if.new.buffer)) c.put_whole_if.result
    c.is_named-select.ensures c.is_named.ensures c.either-insert.ensures c.is_named-2.ensures c.either-update.ensures
    c.in_ok-put_extent.ensures c.in_ok-put_extent-2.ensures c.in_ok-put_extent-3.ensures c.put_whole_if.ensures
