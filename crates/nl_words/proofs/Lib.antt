mod Examples
mod Finding
mod RowsTable
