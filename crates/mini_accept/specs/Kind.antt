-- The types of nodes (ESTree, ES5 to ES2022).
use Rattle.std.specs.Prelude.{ℕ, List, [], ◌∷◌, codes}
pub use Rattle.mini_accept.specs.declared.kind.Kind.{Kind}
pub use Rattle.mini_accept.specs.declared.kind.Kind.TheVariants.{Program, ExpressionStatement, EmptyStatement, DebuggerStatement, BlockStatement, LabeledStatement, BreakStatement, ContinueStatement, ReturnStatement, ThrowStatement, IfStatement, SwitchStatement, SwitchCase, TryStatement, CatchClause, WhileStatement, DoWhileStatement, ForStatement, ForInStatement, ForOfStatement, VariableDeclaration, VariableDeclarator, FunctionDeclaration, FunctionExpression, ArrowFunctionExpression, ClassDeclaration, ClassExpression, ClassBody, MethodDefinition, PropertyDefinition, StaticBlock, ImportDeclaration, ImportSpecifier, ImportDefaultSpecifier, ImportNamespaceSpecifier, ExportNamedDeclaration, ExportSpecifier, ExportDefaultDeclaration, ExportAllDeclaration, Identifier, PrivateIdentifier, Literal, ThisExpression, Super, ArrayExpression, ObjectExpression, Property, SpreadElement, UnaryExpression, UpdateExpression, BinaryExpression, LogicalExpression, AssignmentExpression, ConditionalExpression, SequenceExpression, CallExpression, NewExpression, MemberExpression, ChainExpression, YieldExpression, TemplateLiteral, TemplateElement, TaggedTemplateExpression, MetaProperty, ImportExpression, ObjectPattern, ArrayPattern, RestElement, AssignmentPattern}

-- each type by its name, those that code has most of first
abbrev pub types : List (List ℕ × Kind)
types =
    (codes "Identifier", Identifier) ∷
    (codes "MemberExpression", MemberExpression) ∷
    (codes "Literal", Literal) ∷
    (codes "CallExpression", CallExpression) ∷
    (codes "ExpressionStatement", ExpressionStatement) ∷
    (codes "BlockStatement", BlockStatement) ∷
    (codes "VariableDeclarator", VariableDeclarator) ∷
    (codes "VariableDeclaration", VariableDeclaration) ∷
    (codes "Property", Property) ∷
    (codes "ReturnStatement", ReturnStatement) ∷
    (codes "IfStatement", IfStatement) ∷
    (codes "AssignmentExpression", AssignmentExpression) ∷
    (codes "BinaryExpression", BinaryExpression) ∷
    (codes "FunctionExpression", FunctionExpression) ∷
    (codes "LogicalExpression", LogicalExpression) ∷
    (codes "UnaryExpression", UnaryExpression) ∷
    (codes "ObjectExpression", ObjectExpression) ∷
    (codes "ThisExpression", ThisExpression) ∷
    (codes "FunctionDeclaration", FunctionDeclaration) ∷
    (codes "ArrowFunctionExpression", ArrowFunctionExpression) ∷
    (codes "ConditionalExpression", ConditionalExpression) ∷
    (codes "ArrayExpression", ArrayExpression) ∷
    (codes "NewExpression", NewExpression) ∷
    (codes "UpdateExpression", UpdateExpression) ∷
    (codes "TemplateElement", TemplateElement) ∷
    (codes "ForStatement", ForStatement) ∷
    (codes "TemplateLiteral", TemplateLiteral) ∷
    (codes "ThrowStatement", ThrowStatement) ∷
    (codes "SwitchCase", SwitchCase) ∷
    (codes "BreakStatement", BreakStatement) ∷
    (codes "ChainExpression", ChainExpression) ∷
    (codes "SpreadElement", SpreadElement) ∷
    (codes "ObjectPattern", ObjectPattern) ∷
    (codes "MethodDefinition", MethodDefinition) ∷
    (codes "Program", Program) ∷
    (codes "EmptyStatement", EmptyStatement) ∷
    (codes "DebuggerStatement", DebuggerStatement) ∷
    (codes "LabeledStatement", LabeledStatement) ∷
    (codes "ContinueStatement", ContinueStatement) ∷
    (codes "SwitchStatement", SwitchStatement) ∷
    (codes "TryStatement", TryStatement) ∷
    (codes "CatchClause", CatchClause) ∷
    (codes "WhileStatement", WhileStatement) ∷
    (codes "DoWhileStatement", DoWhileStatement) ∷
    (codes "ForInStatement", ForInStatement) ∷
    (codes "ForOfStatement", ForOfStatement) ∷
    (codes "ClassDeclaration", ClassDeclaration) ∷
    (codes "ClassExpression", ClassExpression) ∷
    (codes "ClassBody", ClassBody) ∷
    (codes "PropertyDefinition", PropertyDefinition) ∷
    (codes "StaticBlock", StaticBlock) ∷
    (codes "ImportDeclaration", ImportDeclaration) ∷
    (codes "ImportSpecifier", ImportSpecifier) ∷
    (codes "ImportDefaultSpecifier", ImportDefaultSpecifier) ∷
    (codes "ImportNamespaceSpecifier", ImportNamespaceSpecifier) ∷
    (codes "ExportNamedDeclaration", ExportNamedDeclaration) ∷
    (codes "ExportSpecifier", ExportSpecifier) ∷
    (codes "ExportDefaultDeclaration", ExportDefaultDeclaration) ∷
    (codes "ExportAllDeclaration", ExportAllDeclaration) ∷
    (codes "PrivateIdentifier", PrivateIdentifier) ∷
    (codes "Super", Super) ∷
    (codes "SequenceExpression", SequenceExpression) ∷
    (codes "YieldExpression", YieldExpression) ∷
    (codes "TaggedTemplateExpression", TaggedTemplateExpression) ∷
    (codes "MetaProperty", MetaProperty) ∷
    (codes "ImportExpression", ImportExpression) ∷
    (codes "ArrayPattern", ArrayPattern) ∷
    (codes "RestElement", RestElement) ∷
    (codes "AssignmentPattern", AssignmentPattern) ∷
    []
