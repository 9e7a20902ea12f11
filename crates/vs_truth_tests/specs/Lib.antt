pub mod LinedMembers
