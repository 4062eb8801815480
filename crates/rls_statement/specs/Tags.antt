-- The tag that each statement is answered with (PostgreSQL manual, 55.7, "CommandComplete").
use Rattle.rls_expr.specs.rls_value.specs.declared.tag.Tag.{Tag}
use Rattle.rls_expr.specs.rls_value.specs.declared.tag.Tag.TheVariants as t
use Rattle.rls_statement.specs.declared.statement.Statement.{Statement}
use Rattle.rls_statement.specs.declared.statement.Statement.TheVariants as s
use Rattle.rls_statement.specs.declared.statement.SetRole.TheVariants as sr
use Rattle.rls_statement.specs.declared.command.TransactionCommand.TheVariants as tc

-- by the kind of statement
abbrev pub tag_of : Statement → Tag
tag_of (s.CreateRole _) = t.CreateRole
tag_of (s.AlterRole _) = t.AlterRole
tag_of (s.CreateTable _) = t.CreateTable
tag_of (s.AlterTable _) = t.AlterTable
tag_of (s.CreatePolicy _) = t.CreatePolicy
tag_of (s.AlterPolicy _) = t.AlterPolicy
tag_of (s.DropPolicy _) = t.DropPolicy
tag_of (s.Grant _) = t.Grant
tag_of (s.GrantRoles _) = t.GrantRole
tag_of (s.Revoke _) = t.Revoke
tag_of (s.RevokeRoles _) = t.RevokeRole
tag_of (s.SetRole (sr.To _)) = t.Set
tag_of (s.SetRole sr.None) = t.Set
tag_of (s.SetRole sr.Reset) = t.Reset
tag_of (s.Insert _) = t.Insert
tag_of (s.Update _) = t.Update
tag_of (s.Delete _) = t.Delete
tag_of (s.Select _) = t.Select
tag_of (s.Transaction (tc.Begin _)) = t.Begin
tag_of (s.Transaction tc.Commit) = t.Commit
tag_of (s.Transaction tc.Rollback) = t.Rollback
