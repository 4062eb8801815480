-- The words of privileges, types of command and tags.
use Rattle.std.specs.Prelude.{ℕ, List, codes}
use Rattle.rls_value.specs.declared.verb.Privilege.{Privilege}
use Rattle.rls_value.specs.declared.verb.Privilege.TheVariants as p
use Rattle.rls_value.specs.declared.verb.Kind.{Kind}
use Rattle.rls_value.specs.declared.verb.Kind.TheVariants as k
use Rattle.rls_value.specs.declared.tag.Tag.{Tag}
use Rattle.rls_value.specs.declared.tag.Tag.TheVariants as t

-- how a privilege is written
abbrev pub privilege_word : Privilege → List ℕ
privilege_word p.Select = codes "SELECT"
privilege_word p.Insert = codes "INSERT"
privilege_word p.Update = codes "UPDATE"
privilege_word p.Delete = codes "DELETE"

-- how a type of command is written
abbrev pub kind_word : Kind → List ℕ
kind_word k.Select = codes "SELECT"
kind_word k.Insert = codes "INSERT"
kind_word k.Update = codes "UPDATE"
kind_word k.Delete = codes "DELETE"

-- the tag of a command
abbrev pub tag_text : Tag → List ℕ
tag_text t.Select = codes "SELECT"
tag_text t.Insert = codes "INSERT"
tag_text t.Update = codes "UPDATE"
tag_text t.Delete = codes "DELETE"
tag_text t.CreateRole = codes "CREATE ROLE"
tag_text t.AlterRole = codes "ALTER ROLE"
tag_text t.CreateTable = codes "CREATE TABLE"
tag_text t.AlterTable = codes "ALTER TABLE"
tag_text t.CreatePolicy = codes "CREATE POLICY"
tag_text t.AlterPolicy = codes "ALTER POLICY"
tag_text t.DropPolicy = codes "DROP POLICY"
tag_text t.Grant = codes "GRANT"
tag_text t.Revoke = codes "REVOKE"
tag_text t.GrantRole = codes "GRANT ROLE"
tag_text t.RevokeRole = codes "REVOKE ROLE"
tag_text t.Set = codes "SET"
tag_text t.Reset = codes "RESET"
tag_text t.Begin = codes "BEGIN"
tag_text t.Commit = codes "COMMIT"
tag_text t.Rollback = codes "ROLLBACK"
tag_text t.Connect = codes "CONNECT"
