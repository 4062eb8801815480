use Rattle.std.specs.List.{All, AllZip}
use Rattle.rls_audit.specs.rls_audit_lines.specs.Reading.{HasPolicies}
use Rattle.rls_check.specs.Keeping.{KeepsPut}
use Rattle.rls_check.proofs.keeping.puts_of.Given as goal

-- those so far are kept, and those that are left have policies
abbrev pub invariant-loop-changed : goal.invariant-loop-changed
invariant-loop-changed l = record {
  kept : AllZip KeepsPut l.yielded l.puts;
  are : All HasPolicies l.changed-iterator.rest.items;
}
