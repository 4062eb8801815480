-- What may stand for each phrase, row by row (PostgreSQL manual, part VI, of which this is a part).
use Rattle.std.specs.Prelude.{List, [], ◌∷◌}
use Rattle.rls_hints.specs.declared.grammar.Item.{Item}
use Rattle.rls_hints.specs.declared.grammar.Item.TheVariants as i
use Rattle.rls_hints.specs.declared.grammar.Phrase.{Phrase}
use Rattle.rls_hints.specs.declared.grammar.Phrase.TheVariants as p
use Rattle.rls_hints.specs.declared.keyword.Keyword.TheVariants as k
use Rattle.rls_hints.specs.declared.token.Mark.TheVariants as m

-- what may stand for the phrase
unfoldable pub alternatives : Phrase → List (List Item)
alternatives p.Command =
    (i.Part p.Select ∷ []) ∷
    (i.Word k.Insert ∷ i.Word k.Into ∷ i.Name ∷ i.Part p.ColumnsMaybe ∷ i.Word k.Values ∷ i.Part p.Tuple ∷ i.Part p.MoreTuples ∷ i.Part p.Returning ∷ []) ∷
    (i.Word k.Update ∷ i.Name ∷ i.Word k.Set ∷ i.Part p.Assigned ∷ i.Part p.MoreAssigned ∷ i.Part p.Where ∷ i.Part p.Returning ∷ []) ∷
    (i.Word k.Delete ∷ i.Word k.From ∷ i.Name ∷ i.Part p.Where ∷ i.Part p.Returning ∷ []) ∷
    (i.Word k.Create ∷ i.Part p.Created ∷ []) ∷
    (i.Word k.Alter ∷ i.Part p.Altered ∷ []) ∷
    (i.Word k.Drop ∷ i.Word k.Policy ∷ i.Name ∷ i.Word k.On ∷ i.Name ∷ []) ∷
    (i.Word k.Grant ∷ i.Part p.Granted ∷ []) ∷
    (i.Word k.Revoke ∷ i.Part p.Revoked ∷ []) ∷
    (i.Word k.Set ∷ i.Word k.Role ∷ i.Part p.ChosenRole ∷ []) ∷
    (i.Word k.Reset ∷ i.Word k.Role ∷ []) ∷
    (i.Word k.Begin ∷ i.Part p.Work ∷ i.Part p.Modes ∷ []) ∷
    (i.Word k.Start ∷ i.Word k.Transaction ∷ i.Part p.Modes ∷ []) ∷
    (i.Part p.CommitWord ∷ i.Part p.Work ∷ []) ∷
    (i.Part p.RollbackWord ∷ i.Part p.Work ∷ []) ∷ []
alternatives p.Semicolon = [] ∷ (i.Sign m.Semicolon ∷ []) ∷ []
alternatives p.MoreNames = [] ∷ (i.Sign m.Comma ∷ i.Name ∷ i.Part p.MoreNames ∷ []) ∷ []
alternatives p.Item =
    (i.Word k.True ∷ []) ∷
    (i.Word k.False ∷ []) ∷
    (i.Word k.Null ∷ []) ∷
    (i.Text ∷ []) ∷
    (i.Part p.Minus ∷ i.Number ∷ []) ∷
    (i.Part p.Column ∷ []) ∷
    (i.Word k.CurrentUser ∷ []) ∷ []
alternatives p.Minus = [] ∷ (i.Sign m.Minus ∷ []) ∷ []
alternatives p.Column = (i.Name ∷ i.Part p.Qualified ∷ []) ∷ []
alternatives p.Qualified = [] ∷ (i.Sign m.Dot ∷ i.Name ∷ []) ∷ []
alternatives p.MoreItems = [] ∷ (i.Sign m.Comma ∷ i.Part p.Item ∷ i.Part p.MoreItems ∷ []) ∷ []
alternatives p.Select = (i.Word k.Select ∷ i.Part p.Selected ∷ i.Word k.From ∷ i.Name ∷ i.Part p.Alias ∷ i.Part p.Where ∷ []) ∷ []
alternatives p.Selected =
    (i.Sign m.Star ∷ []) ∷
    (i.Word k.Count ∷ i.Sign m.Open ∷ i.Sign m.Star ∷ i.Sign m.Close ∷ []) ∷
    (i.Part p.Item ∷ i.Part p.MoreItems ∷ []) ∷ []
alternatives p.Alias = [] ∷ (i.Part p.As ∷ i.Name ∷ []) ∷ []
alternatives p.As = [] ∷ (i.Word k.As ∷ []) ∷ []
alternatives p.Where = [] ∷ (i.Word k.Where ∷ i.Part p.Expression ∷ []) ∷ []
alternatives p.Returning = [] ∷ (i.Word k.Returning ∷ i.Part p.Returned ∷ []) ∷ []
alternatives p.Returned = (i.Sign m.Star ∷ []) ∷ (i.Part p.Item ∷ i.Part p.MoreItems ∷ []) ∷ []
alternatives p.Expression = (i.Part p.Conjunction ∷ i.Part p.MoreOr ∷ []) ∷ []
alternatives p.MoreOr = [] ∷ (i.Word k.Or ∷ i.Part p.Conjunction ∷ i.Part p.MoreOr ∷ []) ∷ []
alternatives p.Conjunction = (i.Part p.Test ∷ i.Part p.MoreAnd ∷ []) ∷ []
alternatives p.MoreAnd = [] ∷ (i.Word k.And ∷ i.Part p.Test ∷ i.Part p.MoreAnd ∷ []) ∷ []
alternatives p.Test = (i.Part p.Nots ∷ i.Part p.Member ∷ i.Part p.Compared ∷ i.Part p.NullTests ∷ []) ∷ []
alternatives p.Nots = [] ∷ (i.Word k.Not ∷ i.Part p.Nots ∷ []) ∷ []
alternatives p.NullTests = [] ∷ (i.Word k.Is ∷ i.Part p.Not ∷ i.Word k.Null ∷ i.Part p.NullTests ∷ []) ∷ []
alternatives p.Not = [] ∷ (i.Word k.Not ∷ []) ∷ []
alternatives p.Compared = [] ∷ (i.Part p.Comparison ∷ i.Part p.Member ∷ []) ∷ []
alternatives p.Comparison =
    (i.Sign m.Equal ∷ []) ∷
    (i.Sign m.NotEqual ∷ []) ∷
    (i.Sign m.Less ∷ []) ∷
    (i.Sign m.LessOrEqual ∷ []) ∷
    (i.Sign m.Greater ∷ []) ∷
    (i.Sign m.GreaterOrEqual ∷ []) ∷ []
alternatives p.Member = (i.Part p.Sum ∷ i.Part p.In ∷ []) ∷ []
alternatives p.In = [] ∷ (i.Part p.Not ∷ i.Word k.In ∷ i.Sign m.Open ∷ i.Part p.Choices ∷ i.Sign m.Close ∷ []) ∷ []
alternatives p.Choices = (i.Part p.Select ∷ []) ∷ (i.Part p.Expression ∷ i.Part p.MoreExpressions ∷ []) ∷ []
alternatives p.MoreExpressions = [] ∷ (i.Sign m.Comma ∷ i.Part p.Expression ∷ i.Part p.MoreExpressions ∷ []) ∷ []
alternatives p.Sum = (i.Part p.Operand ∷ i.Part p.MoreOperands ∷ []) ∷ []
alternatives p.MoreOperands = [] ∷ (i.Part p.PartSign ∷ i.Part p.Operand ∷ i.Part p.MoreOperands ∷ []) ∷ []
alternatives p.PartSign = (i.Sign m.Plus ∷ []) ∷ (i.Sign m.Minus ∷ []) ∷ []
alternatives p.Operand =
    (i.Part p.Item ∷ []) ∷
    (i.Word k.Exists ∷ i.Sign m.Open ∷ i.Part p.Select ∷ i.Sign m.Close ∷ []) ∷
    (i.Sign m.Open ∷ i.Part p.Enclosed ∷ i.Sign m.Close ∷ []) ∷ []
alternatives p.Enclosed = (i.Part p.Select ∷ []) ∷ (i.Part p.Expression ∷ []) ∷ []
alternatives p.ColumnsMaybe = [] ∷ (i.Sign m.Open ∷ i.Name ∷ i.Part p.MoreNames ∷ i.Sign m.Close ∷ []) ∷ []
alternatives p.Tuple = (i.Sign m.Open ∷ i.Part p.Expression ∷ i.Part p.MoreExpressions ∷ i.Sign m.Close ∷ []) ∷ []
alternatives p.MoreTuples = [] ∷ (i.Sign m.Comma ∷ i.Part p.Tuple ∷ i.Part p.MoreTuples ∷ []) ∷ []
alternatives p.Assigned = (i.Name ∷ i.Sign m.Equal ∷ i.Part p.Expression ∷ []) ∷ []
alternatives p.MoreAssigned = [] ∷ (i.Sign m.Comma ∷ i.Part p.Assigned ∷ i.Part p.MoreAssigned ∷ []) ∷ []
alternatives p.Created =
    (i.Word k.Role ∷ i.Name ∷ i.Part p.Attributes ∷ []) ∷
    (i.Word k.User ∷ i.Name ∷ i.Part p.Attributes ∷ []) ∷
    (i.Word k.Table ∷ i.Name ∷ i.Sign m.Open ∷ i.Part p.Definition ∷ i.Part p.MoreColumns ∷ i.Part p.Key ∷ i.Sign m.Close ∷ []) ∷
    (i.Word k.Policy ∷ i.Name ∷ i.Word k.On ∷ i.Name ∷ i.Part p.Permissive ∷ i.Part p.For ∷ i.Part p.To ∷ i.Part p.Using ∷ i.Part p.Check ∷ []) ∷ []
alternatives p.Altered =
    (i.Word k.Role ∷ i.Name ∷ i.Part p.With ∷ i.Part p.Attribute ∷ i.Part p.MoreAttributes ∷ []) ∷
    (i.Word k.Table ∷ i.Name ∷ i.Part p.RowChange ∷ i.Word k.Row ∷ i.Word k.Level ∷ i.Word k.Security ∷ []) ∷
    (i.Word k.Policy ∷ i.Name ∷ i.Word k.On ∷ i.Name ∷ i.Part p.To ∷ i.Part p.Using ∷ i.Part p.Check ∷ []) ∷ []
alternatives p.Attributes = [] ∷ (i.Part p.With ∷ i.Part p.Attribute ∷ i.Part p.MoreAttributes ∷ []) ∷ []
alternatives p.With = [] ∷ (i.Word k.With ∷ []) ∷ []
alternatives p.Attribute =
    (i.Word k.Superuser ∷ []) ∷
    (i.Word k.Nosuperuser ∷ []) ∷
    (i.Word k.Login ∷ []) ∷
    (i.Word k.Nologin ∷ []) ∷
    (i.Word k.Bypassrls ∷ []) ∷
    (i.Word k.Nobypassrls ∷ []) ∷ []
alternatives p.MoreAttributes = [] ∷ (i.Part p.Attribute ∷ i.Part p.MoreAttributes ∷ []) ∷ []
alternatives p.Definition = (i.Name ∷ i.Part p.ColumnType ∷ i.Part p.Marks ∷ []) ∷ []
alternatives p.ColumnType =
    (i.Word k.Integer ∷ []) ∷
    (i.Word k.Int ∷ []) ∷
    (i.Word k.Bigint ∷ []) ∷
    (i.Word k.Text ∷ []) ∷
    (i.Word k.Boolean ∷ []) ∷
    (i.Word k.Bool ∷ []) ∷ []
alternatives p.Marks = [] ∷ (i.Part p.Mark ∷ i.Part p.Marks ∷ []) ∷ []
alternatives p.Mark = (i.Word k.Not ∷ i.Word k.Null ∷ []) ∷ (i.Word k.Primary ∷ i.Word k.Key ∷ []) ∷ []
alternatives p.MoreColumns = [] ∷ (i.Sign m.Comma ∷ i.Part p.Definition ∷ i.Part p.MoreColumns ∷ []) ∷ []
alternatives p.Key = [] ∷ (i.Sign m.Comma ∷ i.Word k.Primary ∷ i.Word k.Key ∷ i.Sign m.Open ∷ i.Name ∷ i.Part p.MoreNames ∷ i.Sign m.Close ∷ []) ∷ []
alternatives p.RowChange = (i.Word k.Enable ∷ []) ∷ (i.Word k.Disable ∷ []) ∷ (i.Word k.Force ∷ []) ∷ (i.Word k.No ∷ i.Word k.Force ∷ []) ∷ []
alternatives p.Permissive = [] ∷ (i.Word k.As ∷ i.Part p.PermissiveWord ∷ []) ∷ []
alternatives p.PermissiveWord = (i.Word k.Permissive ∷ []) ∷ (i.Word k.Restrictive ∷ []) ∷ []
alternatives p.For = [] ∷ (i.Word k.For ∷ i.Part p.PolicyKind ∷ []) ∷ []
alternatives p.PolicyKind =
    (i.Word k.All ∷ []) ∷
    (i.Word k.Select ∷ []) ∷
    (i.Word k.Insert ∷ []) ∷
    (i.Word k.Update ∷ []) ∷
    (i.Word k.Delete ∷ []) ∷ []
alternatives p.To = [] ∷ (i.Word k.To ∷ i.Part p.Grantee ∷ i.Part p.MoreGrantees ∷ []) ∷ []
alternatives p.Grantee = (i.Word k.Public ∷ []) ∷ (i.Name ∷ []) ∷ []
alternatives p.MoreGrantees = [] ∷ (i.Sign m.Comma ∷ i.Part p.Grantee ∷ i.Part p.MoreGrantees ∷ []) ∷ []
alternatives p.Using = [] ∷ (i.Word k.Using ∷ i.Sign m.Open ∷ i.Part p.Expression ∷ i.Sign m.Close ∷ []) ∷ []
alternatives p.Check = [] ∷ (i.Word k.With ∷ i.Word k.Check ∷ i.Sign m.Open ∷ i.Part p.Expression ∷ i.Sign m.Close ∷ []) ∷ []
alternatives p.Granted =
    (i.Part p.Privileges ∷ i.Word k.On ∷ i.Part p.Table ∷ i.Name ∷ i.Word k.To ∷ i.Part p.Grantee ∷ i.Part p.MoreGrantees ∷ i.Part p.GrantOption ∷ []) ∷
    (i.Name ∷ i.Part p.MoreNames ∷ i.Word k.To ∷ i.Name ∷ i.Part p.MoreNames ∷ i.Part p.Settings ∷ []) ∷ []
alternatives p.Revoked =
    (i.Part p.GrantOptionFor ∷ i.Part p.Privileges ∷ i.Word k.On ∷ i.Part p.Table ∷ i.Name ∷ i.Word k.From ∷ i.Part p.Grantee ∷ i.Part p.MoreGrantees ∷ i.Part p.Cascade ∷ []) ∷
    (i.Part p.MembershipOption ∷ i.Word k.Option ∷ i.Word k.For ∷ i.Name ∷ i.Part p.MoreNames ∷ i.Word k.From ∷ i.Name ∷ i.Part p.MoreNames ∷ i.Part p.Cascade ∷ []) ∷
    (i.Name ∷ i.Part p.MoreNames ∷ i.Word k.From ∷ i.Name ∷ i.Part p.MoreNames ∷ i.Part p.Cascade ∷ []) ∷ []
alternatives p.Privileges =
    (i.Word k.All ∷ i.Part p.PrivilegesWord ∷ i.Part p.ColumnsMaybe ∷ []) ∷
    (i.Part p.Privilege ∷ i.Part p.MorePrivileges ∷ []) ∷ []
alternatives p.PrivilegesWord = [] ∷ (i.Word k.Privileges ∷ []) ∷ []
alternatives p.Privilege = (i.Part p.ColumnPrivilege ∷ i.Part p.ColumnsMaybe ∷ []) ∷ (i.Word k.Delete ∷ []) ∷ []
alternatives p.ColumnPrivilege = (i.Word k.Select ∷ []) ∷ (i.Word k.Insert ∷ []) ∷ (i.Word k.Update ∷ []) ∷ []
alternatives p.MorePrivileges = [] ∷ (i.Sign m.Comma ∷ i.Part p.Privilege ∷ i.Part p.MorePrivileges ∷ []) ∷ []
alternatives p.Table = [] ∷ (i.Word k.Table ∷ []) ∷ []
alternatives p.GrantOption = [] ∷ (i.Word k.With ∷ i.Word k.Grant ∷ i.Word k.Option ∷ []) ∷ []
alternatives p.GrantOptionFor = [] ∷ (i.Word k.Grant ∷ i.Word k.Option ∷ i.Word k.For ∷ []) ∷ []
alternatives p.Cascade = [] ∷ (i.Part p.CascadeWord ∷ []) ∷ []
alternatives p.CascadeWord = (i.Word k.Cascade ∷ []) ∷ (i.Word k.Restrict ∷ []) ∷ []
alternatives p.MembershipOption = (i.Word k.Admin ∷ []) ∷ (i.Word k.Inherit ∷ []) ∷ (i.Word k.Set ∷ []) ∷ []
alternatives p.Flag = (i.Word k.True ∷ []) ∷ (i.Word k.Option ∷ []) ∷ (i.Word k.False ∷ []) ∷ []
alternatives p.Settings = [] ∷ (i.Word k.With ∷ i.Part p.MembershipOption ∷ i.Part p.Flag ∷ i.Part p.MoreSettings ∷ []) ∷ []
alternatives p.MoreSettings = [] ∷ (i.Sign m.Comma ∷ i.Part p.MembershipOption ∷ i.Part p.Flag ∷ i.Part p.MoreSettings ∷ []) ∷ []
alternatives p.ChosenRole = (i.Word k.None ∷ []) ∷ (i.Name ∷ []) ∷ []
alternatives p.CommitWord = (i.Word k.Commit ∷ []) ∷ (i.Word k.End ∷ []) ∷ []
alternatives p.RollbackWord = (i.Word k.Rollback ∷ []) ∷ (i.Word k.Abort ∷ []) ∷ []
alternatives p.Work = [] ∷ (i.Part p.WorkWord ∷ []) ∷ []
alternatives p.WorkWord = (i.Word k.Work ∷ []) ∷ (i.Word k.Transaction ∷ []) ∷ []
alternatives p.Modes = [] ∷ (i.Part p.Mode ∷ i.Part p.MoreModes ∷ []) ∷ []
alternatives p.Mode = (i.Word k.Isolation ∷ i.Word k.Level ∷ i.Word k.Serializable ∷ []) ∷ (i.Word k.Read ∷ i.Part p.Access ∷ []) ∷ []
alternatives p.Access = (i.Word k.Only ∷ []) ∷ (i.Word k.Write ∷ []) ∷ []
alternatives p.MoreModes = [] ∷ (i.Part p.Comma ∷ i.Part p.Mode ∷ i.Part p.MoreModes ∷ []) ∷ []
alternatives p.Comma = [] ∷ (i.Sign m.Comma ∷ []) ∷ []
