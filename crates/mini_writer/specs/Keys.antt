-- The names of the fields of ESTree, and the object that has some of them.
use Rattle.std.specs.Prelude.{ℕ, List, [], ◌∷◌, codes}
use Rattle.serde_json.specs.Data.{Data, string, object, Members, no_members, member, put}
use Rattle.serde_json.specs.View.{view}
use Rattle.mini_writer.specs.declared.members.Key.{Key}
use Rattle.mini_writer.specs.declared.members.Key.TheVariants as key
use Rattle.mini_writer.specs.declared.members.Member.{Member}

abbrev pub key_text : Key → List ℕ
key_text key.Alternate = codes "alternate"
key_text key.Argument = codes "argument"
key_text key.Arguments = codes "arguments"
key_text key.Async = codes "async"
key_text key.Attributes = codes "attributes"
key_text key.Await = codes "await"
key_text key.Bigint = codes "bigint"
key_text key.Block = codes "block"
key_text key.Body = codes "body"
key_text key.Callee = codes "callee"
key_text key.Cases = codes "cases"
key_text key.Computed = codes "computed"
key_text key.Consequent = codes "consequent"
key_text key.Cooked = codes "cooked"
key_text key.Declaration = codes "declaration"
key_text key.Declarations = codes "declarations"
key_text key.Delegate = codes "delegate"
key_text key.Directive = codes "directive"
key_text key.Discriminant = codes "discriminant"
key_text key.Elements = codes "elements"
key_text key.Exported = codes "exported"
key_text key.Expression = codes "expression"
key_text key.Expressions = codes "expressions"
key_text key.Finalizer = codes "finalizer"
key_text key.Flags = codes "flags"
key_text key.Generator = codes "generator"
key_text key.Handler = codes "handler"
key_text key.Id = codes "id"
key_text key.Imported = codes "imported"
key_text key.Init = codes "init"
key_text key.Key = codes "key"
key_text key.Kind = codes "kind"
key_text key.Label = codes "label"
key_text key.Left = codes "left"
key_text key.Local = codes "local"
key_text key.Meta = codes "meta"
key_text key.Method = codes "method"
key_text key.Name = codes "name"
key_text key.Object = codes "object"
key_text key.Operator = codes "operator"
key_text key.Optional = codes "optional"
key_text key.Param = codes "param"
key_text key.Params = codes "params"
key_text key.Pattern = codes "pattern"
key_text key.Prefix = codes "prefix"
key_text key.Properties = codes "properties"
key_text key.Property = codes "property"
key_text key.Quasi = codes "quasi"
key_text key.Quasis = codes "quasis"
key_text key.Raw = codes "raw"
key_text key.Regex = codes "regex"
key_text key.Right = codes "right"
key_text key.Shorthand = codes "shorthand"
key_text key.Source = codes "source"
key_text key.SourceType = codes "sourceType"
key_text key.Specifiers = codes "specifiers"
key_text key.Static = codes "static"
key_text key.SuperClass = codes "superClass"
key_text key.Tag = codes "tag"
key_text key.Tail = codes "tail"
key_text key.Test = codes "test"
key_text key.Update = codes "update"
key_text key.Value = codes "value"

-- the members, with others
abbrev pub with_members : List Member → Members → Members
with_members [] ms = ms
with_members (x ∷ xs) ms = with_members xs (put (key_text x.0) (view x.1) ms)

-- a node of this type
abbrev pub node_object : List ℕ → List Member → Data
node_object kind xs = object (with_members xs (member (codes "type") (string kind) no_members))

-- an object that is no node
abbrev pub plain_object : List Member → Data
plain_object xs = object (with_members xs no_members)
