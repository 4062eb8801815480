use Rattle.std.proofs.Common.{◌++◌, Some}
use Rattle.std.specs.Prelude.{codes}
use Rattle.rls_printing.specs.Outputs.{output_of}
use Rattle.rls_printing.specs.StatementForms as form
use Rattle.rls_printing.proofs.OutputLemmas.{put_on}
use Rattle.rls_printing.proofs.words.put_attributes.Goals as goal

pub returns : goal.returns
returns c =
    put_on (Some (output_of c.args.buffer.now)) (form.flag c.args.attributes.superuser (codes "SUPERUSER") (codes "NOSUPERUSER")) ((form.flag c.args.attributes.login (codes "LOGIN") (codes "NOLOGIN")) ++ (form.flag c.args.attributes.bypass_rls (codes "BYPASSRLS") (codes "NOBYPASSRLS"))) (Some (output_of c.put_flag.new.buffer)) (Some (output_of c.put_flag-3.new.buffer)) c.put_flag-3.result
    c.in_ok-put_flag.ensures (put_on (Some (output_of c.put_flag.new.buffer)) (form.flag c.args.attributes.login (codes "LOGIN") (codes "NOLOGIN")) (form.flag c.args.attributes.bypass_rls (codes "BYPASSRLS") (codes "NOBYPASSRLS")) (Some (output_of c.put_flag-2.new.buffer)) (Some (output_of c.put_flag-3.new.buffer)) c.put_flag-3.result
    c.in_ok-put_flag-2.ensures c.put_flag-3.ensures)
